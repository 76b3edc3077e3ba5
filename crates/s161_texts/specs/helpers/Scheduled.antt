use Rattle.std.specs.Prelude.{◌≡◌, ◌≤◌, ℕ, List, [], ◌∷◌, Option, None, Some, replicate}
use Rattle.m161_cpu.specs.declared.processor.Outcome.{Outcome}
use Rattle.m161_machine.specs.declared.event.Entry.{Entry}
use Rattle.m161_machine.specs.declared.event.Event.{Event}
use Rattle.m161_machine.specs.declared.event.Refusal.{Refusal}
use Rattle.m161_machine.specs.State.{State, next}
use Rattle.m161_machine.specs.History.{Refuses, entry, events_of}
use Rattle.s161_base.specs.declared.fault.Fault.{Fault}
use Rattle.s161_run.specs.declared.events.RunStop.{RunStop}
use Rattle.s161_run.specs.Runs.{MakesEvents}
use Rattle.s161_run.specs.helpers.Events.{EndsAfter}
use Rattle.s161_texts.specs.declared.lines.Lines.{Lines}
use Rattle.s161_texts.specs.Traces.{MakesSome}
use Rattle.s161_texts.specs.helpers.Printing.{FailsToPrint, Prints}

-- Runs by a schedule whose lines are printed.

-- an event is made, and its line put out; or it is refused, and nothing is changed
abbrev pub Turn :
    State → Lines → Option (List ℕ) → Event → Option Refusal → State → Lines →
    Option (List ℕ) → Type 0
Turn s l before e None t k after = (o : Outcome) × Prints l before (entry e o ∷ []) t k after
Turn s l before e (Some refusal) t k after =
    Refuses (next s e) e refusal × (t ≡ s) × (k ≡ l) × (after ≡ before)

-- an event is made, and its line can't be put out
abbrev pub FailsOnce :
    Lines → Option (List ℕ) → Event → State → Option (List ℕ) → Fault → Type 0
FailsOnce l before e t after fault =
    (o : Outcome) × FailsToPrint l before (entry e o ∷ []) t after fault

-- the same event is made some times, and its lines put out: as often as is asked for, or the next is
-- refused
pub record TurnsAlike
    (l : Lines) (before : Option (List ℕ)) (e : Event) (times : ℕ) (given : ℕ × Option Refusal)
    (t : State) (k : Lines) (after : Option (List ℕ)) : Type 0 where
  pub entries : List Entry
  pub are_alike : events_of entries ≡ replicate given.0 e
  pub prints : Prints l before entries t k after
  pub ends : EndsAfter e times t given.0 given.1

-- it is made some times, and its lines can't be put out
pub record FailsAlike
    (l : Lines) (before : Option (List ℕ)) (e : Event) (times : ℕ) (t : State)
    (after : Option (List ℕ)) (fault : Fault) : Type 0 where
  pub number : ℕ
  pub few : number ≤ times
  pub entries : List Entry
  pub are_alike : events_of entries ≡ replicate number e
  pub fails : FailsToPrint l before entries t after fault

-- these are all that are made, for this reason
abbrev pub MakesAll : List Event → State → List Entry → RunStop → State → Type 0
MakesAll events s entries stop t = MakesEvents s events stop entries t

-- the first of these events are made and their lines put out, until one switches the machine off or
-- is refused
pub record PrintsSchedule
    (s : State) (l : Lines) (before : Option (List ℕ)) (events : List Event) (stop : RunStop)
    (t : State) (k : Lines) (after : Option (List ℕ)) : Type 0 where
  pub entries : List Entry
  pub makes : MakesEvents s events stop entries t
  pub prints : Prints l before entries t k after

-- the first of these events are made, and their lines can't be put out
pub record FailsInSchedule
    (s : State) (l : Lines) (before : Option (List ℕ)) (events : List Event) (t : State)
    (after : Option (List ℕ)) (fault : Fault) : Type 0 where
  pub entries : List Entry
  pub some : MakesSome events s entries t
  pub fails : FailsToPrint l before entries t after fault
