use Rattle.std.specs.Prelude.{◌≡◌, ℕ, ◌++◌, List, [], ◌∷◌, length, Option, None, Some, Result, Ok, Err}
use Rattle.m161_cpu.specs.declared.uses.Via.{Via}
use Rattle.m161_machine.specs.declared.conf.BootError.TheVariants.{NoMemory}
use Rattle.m161_machine.specs.declared.event.Event.{Event}
use Rattle.m161_machine.specs.declared.event.Event.TheVariants.{Step, Key, Done}
use Rattle.m161_machine.specs.declared.conf.Conf.{Conf}
use Rattle.m161_machine.specs.declared.conf.BootError.{BootError}
use Rattle.m161_machine.specs.History.{History, IsBooted, boot_state}
use Rattle.m161_machine.specs.State.{CoreValue, State}
use Rattle.m161_machine.specs.StoreHistory.{StoreState}
use Rattle.m161_audit.specs.declared.finding.AuditError.{AuditError}
use Rattle.m161_audit.specs.declared.finding.AuditError.TheVariants.{Boot, BadWatch}
use Rattle.m161_audit.specs.declared.finding.Finding.{Finding}
use Rattle.m161_audit.specs.declared.finding.Finding.TheVariants.{Clean, Stale}
use Rattle.m161_audit.specs.declared.shootdown.Shootdown.{Shootdown}
use Rattle.m161_audit.specs.declared.watch.Watch.{Watch}
use Rattle.m161_audit.specs.Watch.{AreGood, IsBad}
use Rattle.m161_audit.specs.Stale.{IsFinding, IsStale, after_event, after_events}
use Rattle.m161_audit.specs.Tracking.{IsAt, tracked}

-- How the code audits a run: on a machine's state, which has the live links in place of the stores.

-- no event of a run from s is a stale use
abbrev pub NoneStale : List Watch → StoreState → List Event → Type 0
NoneStale watches s [] = Unit {0}
NoneStale watches s (e ∷ es) =
    ((p : ℕ) (v : Via) → IsStale s watches e p v → ⊥) × NoneStale watches (after_event s e) es

-- the run is made, and none of its events is a stale use
abbrev pub Passes : List Watch → StoreState → List Event → State → List Shootdown → Type 0
Passes watches s es core items = NoneStale watches s es × IsAt watches (after_events s es) core items

-- event k of the run is the first stale use, by processor p
pub record Finds
    (watches : List Watch) (s : StoreState) (es : List Event) (k p : ℕ) (v : Via) : Type 0 where
  pub before : List Event
  pub event : Event
  pub rest : List Event
  pub events_are : es ≡ before ++ event ∷ rest
  pub place_is : length before ≡ k
  pub none : NoneStale watches s before
  pub stale : IsStale (after_events s before) watches event p v

-- one Step: it is a stale use, or not, and then it is made, if it isn't refused
abbrev pub AuditsStep :
    List Watch → StoreState → ℕ → Option Via → State → List Shootdown → Type 0
AuditsStep watches s p (Some v) core items = IsStale s watches (Step p) p v
AuditsStep watches s p None core items = Passes watches s (Step p ∷ []) core items

-- one event, or memory was refused
abbrev pub AuditsEvent :
    List Watch → StoreState → Event → Result (Option (ℕ × Via)) AuditError → State → List Shootdown
    → Type 0
AuditsEvent watches s e (Ok (Some (p, v))) core items = IsStale s watches e p v
AuditsEvent watches s e (Ok None) core items = Passes watches s (e ∷ []) core items
AuditsEvent watches s e (Err error) core items = error ≡ Boot NoMemory

-- Steps of one processor, and a place among them
abbrev pub AuditsSteps :
    List Watch → StoreState → ℕ → List Event → Option (ℕ × Via) → State → List Shootdown → Type 0
AuditsSteps watches s p es (Some (k, v)) core items = Finds watches s es k p v
AuditsSteps watches s p es None core items = Passes watches s es core items

-- an event other than a Step
abbrev pub IsInput : Event → Type 0
IsInput (Step p) = ⊥
IsInput (Key byte) = Unit {0}
IsInput Done = Unit {0}

-- any events, or memory was refused
abbrev pub AuditsEvents :
    List Watch → StoreState → List Event → Result (Option (ℕ × ℕ × Via)) AuditError → State
    → List Shootdown → Type 0
AuditsEvents watches s es (Ok (Some (k, p, v))) core items = Finds watches s es k p v
AuditsEvents watches s es (Ok None) core items = Passes watches s es core items
AuditsEvents watches s es (Err error) core items = error ≡ Boot NoMemory

-- inputs, which are no stale uses, or memory was refused
abbrev pub AuditsInputs :
    List Watch → StoreState → List Event → Result Unit AuditError → State → List Shootdown → Type 0
AuditsInputs watches s es (Ok done) core items = Passes watches s es core items
AuditsInputs watches s es (Err error) core items = error ≡ Boot NoMemory

-- the finding, or memory was refused
abbrev pub FindsIn : List Watch → StoreState → List Event → Result Finding AuditError → Type 0
FindsIn watches s es (Ok finding) = IsFinding s es watches finding
FindsIn watches s es (Err error) = error ≡ Boot NoMemory

-- the same where events were audited before: these are all; where none is a stale use, the run is made
abbrev pub FindsOn :
    List Watch → StoreState → List Event → Result Finding AuditError → State → List Shootdown → Type 0
FindsOn watches s es (Ok Clean) core items = Passes watches s es core items
FindsOn watches s es (Ok (Stale k p address row)) core items =
    IsFinding s es watches (Stale k p address row)
FindsOn watches s es (Err error) core items = error ≡ Boot NoMemory

-- what an audit begins with, without a reason not to boot
abbrev pub BeginsBooted :
    List ℕ → Conf → List Watch → Result (CoreValue × List Shootdown) AuditError → Type 0
BeginsBooted file conf watches (Ok (core, items)) =
    ((k : ℕ) → AreGood conf.ram watches k)
    × ((m : History) × IsBooted file conf m × (core.state ≡ boot_state m.start))
    × (items ≡ tracked watches [])
BeginsBooted file conf watches (Err (Boot e)) = e ≡ NoMemory
BeginsBooted file conf watches (Err (BadWatch k)) =
    IsBad conf.ram watches k × AreGood conf.ram watches k

-- by the first reason not to boot
abbrev pub Begins :
    List ℕ → Conf → Option BootError → List Watch → Result (CoreValue × List Shootdown) AuditError
    → Type 0
Begins file conf (Some first) watches result = result ≡ Err (Boot first)
Begins file conf None watches result = BeginsBooted file conf watches result
