use Rattle.std.specs.Prelude.{ℕ, List, Ok}
use Rattle.m161_judge.specs.Judge.{BootsState}
use Rattle.m161_machine.specs.declared.conf.Conf.{Conf}
use Rattle.m161_machine.specs.History.{boot_fault}
use Rattle.m161_machine.specs.State.{State}

-- Machines at boot.

-- a state is that at the boot of a file
abbrev pub BeginsAt : List ℕ → Conf → State → Type 0
BeginsAt file conf s = BootsState file conf (boot_fault file conf) (Ok s)

-- of some file
abbrev pub IsBooted : State → Type 0
IsBooted s = (file : List ℕ) × (conf : Conf) × BeginsAt file conf s
