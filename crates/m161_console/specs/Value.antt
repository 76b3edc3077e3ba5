use Rattle.std.specs.Prelude.{ℕ, List}
use Rattle.m161_bus.specs.Console.{ConsoleState}

-- What contracts see of a console.

-- its state; and how many bytes it can send before memory is needed again
pub record ConsoleValue : Type 0 where
  pub content : ConsoleState
  pub room : ℕ

-- the state with these waiting bytes
abbrev pub with_waiting : List ℕ → ConsoleState → ConsoleState
with_waiting bytes s = record s { waiting = bytes }
