use Rattle.std.specs.Prelude.{◌≡◌, ℕ, ◌≢◌, ◌+◌, ◌-◌, ◌<◌, Bool, true, false, List, ◌++◌, length, Option, None, Some, Result, Ok, Err}
use Rattle.m161_cpu.specs.declared.processor.Outcome.{Outcome}
use Rattle.m161_machine.specs.declared.conf.BootError.TheVariants.{NoMemory}
use Rattle.m161_machine.specs.declared.event.Conflict.{Conflict as ConflictOf}
use Rattle.m161_machine.specs.declared.event.Entry.{Entry}
use Rattle.m161_machine.specs.declared.event.Event.{Event}
use Rattle.m161_machine.specs.declared.event.Event.TheVariants.{Step, Key, Done}
use Rattle.m161_machine.specs.declared.event.Refusal.{Refusal}
use Rattle.m161_machine.specs.History.{events_of}
use Rattle.m161_machine.specs.State.{State, next}
use Rattle.m161_machine.specs.StoreHistory.{without_stores}
use Rattle.m161_audit.specs.declared.finding.AuditError.{AuditError}
use Rattle.m161_audit.specs.declared.finding.AuditError.TheVariants.{Boot, BadWatch}
use Rattle.m161_audit.specs.declared.finding.Finding.{Finding}
use Rattle.m161_audit.specs.Watch.{AreGood, IsBad}
use Rattle.m161_audit.specs.Stale.{IsFinding}
use Rattle.m161_drive.specs.declared.run.Driven.{Driven}
use Rattle.m161_drive.specs.declared.run.Stop.TheVariants as drive
use Rattle.m161_drive.specs.Drive.{Drives}
use Rattle.m161_drive.specs.Policy.{Rules}
use Rattle.m161_judge.specs.declared.run.JudgedRun.{JudgedRun}
use Rattle.m161_judge.specs.declared.verdict.Judged.{Judged}
use Rattle.m161_judge.specs.declared.verdict.Verdict.{Verdict}
use Rattle.m161_judge.specs.declared.verdict.Verdict.TheVariants.{Reached}
use Rattle.m161_judge.specs.declared.walk.Walk.{Walk}
use Rattle.m161_judge.specs.declared.walk.Walk.TheVariants as walk
use Rattle.m161_judge.specs.declared.reach.Reach.{Reach}
use Rattle.m161_judge.specs.Run.{is_cut}
use Rattle.m161_judge.specs.Memory.{IsFirstReach}
use Rattle.m161_judge.specs.Verdict.{Criteria, Holds, IsJudged, IsRefused, LeadsTo, has_keys, rank}

-- How the code judges a run: it looks at each of its states.

-- the first verdict that one Step gives: a stale use, or the reach of an address
abbrev pub IsJudgedOfSteps : Criteria → State → List Event → Option Judged → Type 0
IsJudgedOfSteps goal s events None =
    (v : Verdict) (n : ℕ) → rank v < 2 → Holds goal s events v n → ⊥
IsJudgedOfSteps goal s events (Some judged) =
    (rank judged.verdict < 2) × Holds goal s events judged.verdict judged.events
    × ((v : Verdict) (n : ℕ) → rank v < rank judged.verdict → Holds goal s events v n → ⊥)

-- the same, where no watch is bad; or why that isn't known
abbrev pub JudgesSteps : Criteria → State → List Event → Result (Option Judged) AuditError → Type 0
JudgesSteps goal s events (Ok judged) =
    ((k : ℕ) → AreGood s.conf.ram goal.watches k) × IsJudgedOfSteps goal s events judged
JudgesSteps goal s events (Err (Boot e)) = e ≡ NoMemory
JudgesSteps goal s events (Err (BadWatch k)) =
    IsBad s.conf.ram goal.watches k × AreGood s.conf.ram goal.watches k

-- the first verdict behind those of Steps
abbrev pub IsJudgedBeside : Criteria → State → List Event → Option Judged → Type 0
IsJudgedBeside goal s events None =
    (v : Verdict) (n : ℕ) → 1 < rank v → Holds goal s events v n → ⊥
IsJudgedBeside goal s events (Some judged) =
    (1 < rank judged.verdict) × Holds goal s events judged.verdict judged.events
    × ((v : Verdict) (n : ℕ) → 1 < rank v → rank v < rank judged.verdict
    → Holds goal s events v n → ⊥)

-- a conflict that switched the machine off, or none did
abbrev pub IsConflictOff : State → Option ConflictOf → Type 0
IsConflictOff t (Some conflict) = (t.board.off ≡ true) × (t.conflict ≡ Some conflict)
IsConflictOff t None = t.board.off ≡ true → t.conflict ≡ None

-- the first verdict behind Conflict
abbrev pub IsJudgedBehind : Criteria → State → List Event → Option Judged → Type 0
IsJudgedBehind goal s events None =
    (v : Verdict) (n : ℕ) → 2 < rank v → Holds goal s events v n → ⊥
IsJudgedBehind goal s events (Some judged) =
    (2 < rank judged.verdict) × Holds goal s events judged.verdict judged.events
    × ((v : Verdict) (n : ℕ) → 2 < rank v → rank v < rank judged.verdict
    → Holds goal s events v n → ⊥)

-- the run ends after n events: the machine is off, or there are no more
pub record Ends (s : State) (events : List Event) (n : ℕ) (t : State) : Type 0 where
  pub leads : LeadsTo s events n t
  pub is_last : t.board.off ≡ false → n ≡ length events

-- an event is made, or refused; or memory was refused
abbrev pub MakesEvent : State → Event → Result Bool AuditError → State → Type 0
MakesEvent s e (Ok true) t = (o : Outcome) × (next s e ≡ Ok (o, t))
MakesEvent s e (Ok false) t = (refusal : Refusal) × (next s e ≡ Err refusal)
MakesEvent s e (Err error) t = error ≡ Boot NoMemory

-- the same, with the outcome of an event that is made
abbrev pub MakesWith : State → Event → Result (Option Outcome) AuditError → State → Type 0
MakesWith s e (Ok (Some o)) t = next s e ≡ Ok (o, t)
MakesWith s e (Ok None) t = (refusal : Refusal) × (next s e ≡ Err refusal)
MakesWith s e (Err error) t = error ≡ Boot NoMemory

abbrev pub left_after : ℕ → Event → ℕ
left_after left (Step p) = left
left_after left (Key byte) = left - 1
left_after left Done = left

-- all events are made; or memory was refused
abbrev pub Walks : Criteria → State → List Event → Result Walk AuditError → Type 0
Walks goal s events (Ok walk.Refused) = IsRefused s events
Walks goal s events (Ok (walk.Made judged)) =
    (IsRefused s events → ⊥) × IsJudgedBeside goal s events judged
Walks goal s events (Err error) = error ≡ Boot NoMemory

-- the verdict of a reach, which needs the events up to it
abbrev pub judged_reach : Reach → Judged
judged_reach reach = record {
  verdict = Reached reach.place reach.processor reach.address;
  events = reach.place + 1;
}

-- a finding, and the first reach, give the first verdict of Steps
abbrev pub JoinsSteps :
    Criteria → State → List Event → Finding → Option Reach → Option Judged → Type 0
JoinsSteps goal s events finding reach judged =
    IsFinding (without_stores s) events goal.watches finding
    → IsFirstReach goal.never s events reach → IsJudgedOfSteps goal s events judged

-- the first verdict of Steps, and the first one behind those, give the verdict
abbrev pub Joins :
    Criteria → State → List Event → Option Judged → Option Judged → Option Judged → Type 0
Joins goal s events of_steps beside judged =
    (IsRefused s events → ⊥) → IsJudgedOfSteps goal s events of_steps
    → IsJudgedBeside goal s events beside → IsJudged goal s events judged

-- a driven run from a state, judged but for its Steps
pub record IsDrivenRun (rules : Rules) (n : ℕ) (output : Option (List ℕ)) (s : State) (run : JudgedRun)
    : Type 0 where
  pub driven : Driven
  pub entries : List Entry
  pub state : State
  pub drives : Drives rules n s driven entries state
  pub accepted : (refusal : Refusal) → driven.stop ≢ drive.Refused refusal
  pub events_are : run.events.items ≡ events_of entries
  pub made : IsRefused s run.events.items → ⊥
  pub beside :
      (goal : Criteria) → goal.output ≡ output → goal.keys ≡ rules.keys
      → IsJudgedBeside goal s run.events.items run.judged
  pub cut : run.is_cut ≡ is_cut driven.stop (has_keys rules.keys run.events.items) state

-- a run that was begun goes on to its end, judged but for its Steps
pub record IsDrivenRest
    (rules : Rules) (n : ℕ) (goal : Criteria) (s : State) (fs : List Event) (u : State) (run : JudgedRun)
    : Type 0 where
  pub driven : Driven
  pub entries : List Entry
  pub state : State
  pub drives : Drives rules n u driven entries state
  pub accepted : (refusal : Refusal) → driven.stop ≢ drive.Refused refusal
  pub events_are : run.events.items ≡ fs ++ events_of entries
  pub made : IsRefused s run.events.items → ⊥
  pub beside : IsJudgedBeside goal s run.events.items run.judged
  pub cut : run.is_cut ≡ is_cut driven.stop (has_keys goal.keys run.events.items) state

-- its events begin with these; or memory was refused
abbrev pub DrivesRest :
    Rules → ℕ → Criteria → State → List Event → State → List Event → Result JudgedRun AuditError
    → Type 0
DrivesRest rules n goal s fs u begun (Ok run) =
    IsDrivenRest rules n goal s fs u run × ((rest : List Event) × (run.events.items ≡ begun ++ rest))
DrivesRest rules n goal s fs u begun (Err error) = error ≡ Boot NoMemory

-- or memory was refused
abbrev pub DrivesRun :
    Rules → ℕ → Option (List ℕ) → State → Result JudgedRun AuditError → Type 0
DrivesRun rules n output s (Ok run) = IsDrivenRun rules n output s run
DrivesRun rules n output s (Err error) = error ≡ Boot NoMemory
