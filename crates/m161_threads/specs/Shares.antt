use Rattle.std.specs.Prelude.{◌≡◌, ℕ, ◌+◌, ◌<◌, ◌≤◌, Bool, true, false, List, [], ◌∷◌, length, slice_get, slice_index_or, sum, All, Some}
use Rattle.m161_machine.specs.State.{State, counts}
use Rattle.m161_machine.specs.History.{History}

-- A machine behind a lock, and the seats of the threads.

-- the model of a book in contracts: its machine, and how many seats have noted that it is off
pub record BookState : Type 0 where
  pub machine : History
  pub offs : ℕ

-- the invariant while the lock is free: the seats' Steps are those that the machine has counted,
-- and no seat has noted that the machine is off unless it is
abbrev pub IsKept : History → ℕ → ℕ → Type 0
IsKept machine steps offs =
    (steps ≡ sum (counts machine.state)) × (0 < offs → machine.state.board.off ≡ true)

-- the model of a seat in contracts: its processor, how many Steps that processor has made, and
-- whether the seat has noted that the machine is off
pub record SeatState : Type 0 where
  pub processor : ℕ
  pub count : ℕ
  pub noted : Bool

abbrev pub new_seat : ℕ → ℕ → SeatState
new_seat processor count = record { processor = processor; count = count; noted = false }

-- a seat for each processor from number p on, with its count
abbrev pub seats_from : ℕ → List ℕ → List SeatState
seats_from p [] = []
seats_from p (count ∷ counts) = new_seat p count ∷ seats_from (p + 1) counts

-- a seat has the count of its processor
abbrev pub HasCount : State → SeatState → Type 0
HasCount s seat =
    (seat.processor < length s.processors)
    × (slice_index_or (counts s) seat.processor 0 ≡ seat.count)

-- no seat has noted that the machine is off unless it is
abbrev pub NotedOnlyOff : State → List SeatState → Type 0
NotedOnlyOff s seats = All (λ (seat : SeatState). seat.noted ≡ true → s.board.off ≡ true) seats

-- a seat of this processor differs from it in the count, and this is the least such processor
pub record IsLeastMiscount (s : State) (seats : List SeatState) (p : ℕ) : Type 0 where
  pub seat : SeatState
  pub at : ℕ
  pub there : slice_get seats at ≡ Some seat
  pub its : seat.processor ≡ p
  pub wrong : HasCount s seat → ⊥
  pub least : All (λ (other : SeatState). (HasCount s other → ⊥) → p ≤ other.processor) seats
