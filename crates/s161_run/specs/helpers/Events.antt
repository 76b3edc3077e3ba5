use Rattle.std.specs.Prelude.{◌≡◌, ◌<◌, ℕ, List, length, Option, None, Some, replicate}
use Rattle.m161_drive.specs.Drive.{IsNoted}
use Rattle.m161_machine.specs.declared.event.Entry.{Entry}
use Rattle.m161_machine.specs.declared.event.Event.{Event}
use Rattle.m161_machine.specs.declared.event.Refusal.{Refusal}
use Rattle.m161_machine.specs.State.{State, next}
use Rattle.m161_machine.specs.History.{Leads, Refuses, events_of}

-- One event, made again and again.

-- an event, each time with one of these entries, leads from one state to another
abbrev pub MakesOf : Event → State → List Entry → State → Type 0
MakesOf e s entries t = Leads s entries t × (events_of entries ≡ replicate (length entries) e)

-- why it was made so often of so many times
abbrev pub EndsAfter : Event → ℕ → State → ℕ → Option Refusal → Type 0
EndsAfter e times t made None = made ≡ times
EndsAfter e times t made (Some refusal) = (made < times) × Refuses (next t e) e refusal

-- an event was made as often as it was to be, or until it was refused, and its entries were noted
pub record MakesAlike
    {A : Type 0} (has : ℕ → A → List Entry → Type 0) (s : State) (old : A) (e : Event) (times : ℕ)
    (t : State) (new : A) (given : ℕ × Option Refusal) : Type 0 where
  pub entries : List Entry
  pub made_is : length entries ≡ given.0
  pub makes : MakesOf e s entries t
  pub noted : IsNoted has old entries new
  pub ends : EndsAfter e times t given.0 given.1
