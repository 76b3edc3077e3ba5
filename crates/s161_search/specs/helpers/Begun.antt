use Rattle.std.specs.Prelude.{◌≡◌, ◌⊎◌, ℕ, List, Option, Ok}
use Rattle.m161_judge.specs.declared.verdict.Judged.{Judged}
use Rattle.m161_judge.specs.Begun.{IsFirstOf}
use Rattle.m161_judge.specs.Judge.{BootsState}
use Rattle.m161_judge.specs.Memory.{IsKeptOf}
use Rattle.m161_machine.specs.declared.event.Event.{Event}
use Rattle.m161_machine.specs.History.{boot_fault, events_of}
use Rattle.m161_machine.specs.State.{State}
use Rattle.m161_shorten.specs.declared.judged.Judgement.{Judgement}
use Rattle.m161_machine.specs.declared.event.Entry.{Entry}
use Rattle.s161_run.specs.declared.events.RunStop.{RunStop}
use Rattle.m161_machine.specs.declared.event.Refusal.{Refusal}
use Rattle.s161_base.specs.Faults.{fault_of_first}
use Rattle.s161_run.specs.Behind.{RefusesFirst, WasAccepted}
use Rattle.s161_run.specs.Runs.{MakesEvents}
use Rattle.s161_search.specs.declared.start.Start.{Start}
use Rattle.s161_base.specs.declared.fault.Fault.{Fault}
use Rattle.s161_base.specs.declared.fault.Fault.TheVariants.{Conf, Image, Memory, Watch}
use Rattle.s161_search.specs.Given.{AreAllKeys, Given, criteria_of}
use Rattle.s161_search.specs.Runs.{IsRunFault}
use Rattle.s161_search.specs.Searches.{HasKind, IsJudgedAt}

-- The state at boot, from which all runs of a search begin.

-- this is that state
abbrev pub BeginsAt : Given → State → Type 0
BeginsAt given s = BootsState given.file given.conf (boot_fault given.file given.conf) (Ok s)

-- why a run isn't made, but for an event that comes first
abbrev pub IsBareFault : Given → Fault → Type 0
IsBareFault given Conf = IsRunFault given Conf
IsBareFault given (Image e) = IsRunFault given (Image e)
IsBareFault given (Watch k) = IsRunFault given (Watch k)
IsBareFault given Memory = Unit {0}
IsBareFault given _ = ⊥

-- the verdict of a list of events, if that is this state
abbrev pub IsJudgedFrom : State → Given → List Event → Option Judged → Type 0
IsJudgedFrom s given events judged = BeginsAt given s → IsJudgedAt given events judged

-- the same of a list behind first events, where only the kind matters
abbrev pub HasKindFrom : State → Given → List Event → List Event → Option (Judgement ℕ) → Type 0
HasKindFrom s given first events verdict = BeginsAt given s → HasKind given first events verdict

-- from s the events that come first were made, and led to u: these, of which none was refused
pub record MakesFirst (given : Given) (s u : State) (events : List Event) : Type 0 where
  pub stop : RunStop
  pub entries : List Entry
  pub makes : MakesEvents s given.first stop entries u
  pub accepted : WasAccepted stop
  pub events_are : events ≡ events_of entries

-- one of them was refused; or memory was
abbrev pub IsFirstFault : Given → State → Fault → Type 0
IsFirstFault given s fault =
    (fault ≡ Memory)
    ⊎ ((k : ℕ) × (why : Refusal) × RefusesFirst s given.first k why × (fault ≡ fault_of_first k why))

-- from boot, they led to this start, with what is kept of them
pub record IsStarted (given : Given) (s : State) (start : Start) : Type 0 where
  pub are_all : AreAllKeys given
  pub made : MakesFirst given s start.core.value.state start.events.items
  pub kept : IsKeptOf (criteria_of given) s start.events.items start.steps
  pub first_is : IsFirstOf (criteria_of given) s start.events.items start.core.value.state start.first
