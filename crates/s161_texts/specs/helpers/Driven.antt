use Rattle.std.specs.Prelude.{◌≡◌, ℕ, List, [], ◌∷◌, slice_get, Option, None, Some}
use Rattle.m161_machine.specs.declared.event.Entry.{Entry}
use Rattle.m161_machine.specs.declared.event.Event.{Event}
use Rattle.m161_machine.specs.State.{State}
use Rattle.m161_drive.specs.declared.cursor.Cursor.{Cursor}
use Rattle.m161_drive.specs.declared.run.Driven.{Driven}
use Rattle.m161_drive.specs.declared.run.Stop.{Stop}
use Rattle.m161_drive.specs.Drive.{Drives, Goes, Rests}
use Rattle.m161_drive.specs.Policy.{Rules}
use Rattle.s161_base.specs.declared.fault.Fault.{Fault}
use Rattle.s161_run.specs.Behind.{GoesBehind}
use Rattle.s161_run.specs.declared.events.RunStop.{RunStop}
use Rattle.s161_texts.specs.declared.lines.Lines.{Lines}
use Rattle.s161_texts.specs.Traces.{DrivesSome, GoesSome}
use Rattle.s161_texts.specs.helpers.Printing.{FailsToPrint, Prints}

-- Driven runs whose lines are printed.

-- the next key of a policy
abbrev pub next_key : Rules → Cursor → Option ℕ
next_key rules c = slice_get rules.keys c.typed

-- the event that is chosen is made, and its line put out; or none is made, and nothing is changed but
-- the cursor
abbrev pub Turn :
    Rules → Cursor → State → Lines → Option (List ℕ) → Option Stop → Cursor → State → Lines →
    Option (List ℕ) → Type 0
Turn rules c s l before None d t k after =
    (e : Entry) × Goes rules (next_key rules c) c s e d t × Prints l before (e ∷ []) t k after
Turn rules c s l before (Some stop) d t k after =
    Rests rules (next_key rules c) c s stop × (t ≡ s) × (k ≡ l) × (after ≡ before)

-- it is made, and its line can't be put out
abbrev pub FailsOnce :
    Rules → Cursor → State → Lines → Option (List ℕ) → Cursor → State → Option (List ℕ) →
    Fault → Type 0
FailsOnce rules c s l before d t after fault =
    (e : Entry) × Goes rules (next_key rules c) c s e d t × FailsToPrint l before (e ∷ []) t after fault

-- the events that are chosen, at most so many, are made, and their lines put out
pub record PrintsDrive
    (rules : Rules) (most : ℕ) (s : State) (l : Lines) (before : Option (List ℕ)) (driven : Driven)
    (t : State) (k : Lines) (after : Option (List ℕ)) : Type 0 where
  pub entries : List Entry
  pub drives : Drives rules most s driven entries t
  pub prints : Prints l before entries t k after

-- some of them are made, and their lines can't be put out
pub record FailsInDrive
    (rules : Rules) (most : ℕ) (s : State) (l : Lines) (before : Option (List ℕ)) (t : State)
    (after : Option (List ℕ)) (fault : Fault) : Type 0 where
  pub entries : List Entry
  pub some : DrivesSome rules most s entries t
  pub fails : FailsToPrint l before entries t after fault

-- these are all events that are made, for this reason: those that come first, and those that the policy
-- chooses behind them
abbrev pub GoesAll : Rules → ℕ → List Event → State → List Entry → RunStop → State → Type 0
GoesAll rules most first s entries stop t = GoesBehind rules most s first stop entries t

-- they are made, and their lines put out
pub record PrintsBehind
    (rules : Rules) (most : ℕ) (s : State) (l : Lines) (before : Option (List ℕ)) (first : List Event)
    (stop : RunStop) (t : State) (k : Lines) (after : Option (List ℕ)) : Type 0 where
  pub entries : List Entry
  pub goes : GoesBehind rules most s first stop entries t
  pub prints : Prints l before entries t k after

-- some of them are made, and their lines can't be put out
pub record FailsBehind
    (rules : Rules) (most : ℕ) (s : State) (l : Lines) (before : Option (List ℕ)) (first : List Event)
    (t : State) (after : Option (List ℕ)) (fault : Fault) : Type 0 where
  pub entries : List Entry
  pub some : GoesSome rules most first s entries t
  pub fails : FailsToPrint l before entries t after fault
