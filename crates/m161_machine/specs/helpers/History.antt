use Rattle.std.specs.Prelude.{ℕ, List}
use Rattle.m161_machine.specs.declared.conf.Conf.{Conf}
use Rattle.m161_machine.specs.History.{Start, entry}

abbrev pub start_of : List ℕ → ℕ → Conf → Start
start_of bytes entry conf = record { bytes = bytes; entry = entry; conf = conf }
