use Rattle.std.specs.Prelude.{ℕ, List, All, Option, None, Some, nat_le, if◌then◌else◌}
use Rattle.m161_machine.specs.State.{State}
use Rattle.m161_threads.specs.Shares.{SeatState, HasCount, IsLeastMiscount}

-- each seat has its processor's count; or else the least processor whose seat differs
abbrev pub Miscounts : State → List SeatState → Option ℕ → Type 0
Miscounts s seats None = All (HasCount s) seats
Miscounts s seats (Some p) = IsLeastMiscount s seats p

-- the lesser of two numbers, if there is a first
abbrev pub least_of : Option ℕ → ℕ → ℕ
least_of None number = number
least_of (Some least) number = if nat_le least number then least else number
