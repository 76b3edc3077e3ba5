use Rattle.std.specs.Prelude.{◌≡◌, ℕ, List, None}
use Rattle.clap.specs.Words.{Text}
use Rattle.m161_order.specs.Delays.{delay_fault}
use Rattle.s161_command.specs.Delays.{number_of}
use Rattle.s161_command.specs.Numbers.{IsNumber}

-- The delays of a list, one after the other.

-- a part is a number that may follow these
abbrev pub CanFollow : List ℕ → Text → Type 0
CanFollow numbers part = IsNumber part × (delay_fault numbers (number_of part) ≡ None)
