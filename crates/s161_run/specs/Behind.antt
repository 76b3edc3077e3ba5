use Rattle.std.specs.Prelude.{◌≡◌, ◌≢◌, ℕ, ◌+◌, ◌-◌, min, List, ◌++◌, length, Option}
use Rattle.m161_machine.specs.declared.event.Conflict.{Conflict}
use Rattle.m161_machine.specs.declared.event.Entry.{Entry}
use Rattle.m161_machine.specs.declared.event.Event.{Event}
use Rattle.m161_machine.specs.declared.event.Refusal.{Refusal}
use Rattle.m161_machine.specs.History.{events_of}
use Rattle.m161_machine.specs.State.{State}
use Rattle.m161_drive.specs.declared.run.Driven.{Driven}
use Rattle.m161_drive.specs.declared.run.Stop.{Stop as DriveStop}
use Rattle.m161_drive.specs.declared.run.Stop.TheVariants as drive
use Rattle.m161_drive.specs.Drive.{Drives}
use Rattle.m161_drive.specs.Policy.{Rules}
use Rattle.s161_run.specs.declared.events.RunStop.{RunStop}
use Rattle.s161_run.specs.declared.events.RunStop.TheVariants.{End, Stuck, Refused}
use Rattle.s161_run.specs.Runs.{MakesEvents, stop_off}

-- A run by an order, behind first events: those of the file of `--after`, or none.

-- how a driven run stopped that made so many events and has this conflict, as a command tells it
abbrev pub told : ℕ → Option Conflict → DriveStop → RunStop
told made conflict drive.Off = stop_off conflict
told made conflict drive.End = End
told made conflict drive.Stuck = Stuck
told made conflict (drive.Refused refusal) = Refused made refusal

-- where all of the first events were made, in a state that is on, the policy's follow them, at most n,
-- chosen by a new cursor; where one of them was refused or switched the machine off, it chooses none
abbrev pub Follows :
    Rules → ℕ → RunStop → List Entry → State → RunStop → List Entry → State → Type 0
Follows rules n End first u stop entries t =
    (driven : Driven) × (more : List Entry) × Drives rules n u driven more t
    × (entries ≡ first ++ more) × (stop ≡ told (length first + driven.made) t.conflict driven.stop)
Follows rules n why first u stop entries t = (stop ≡ why) × (entries ≡ first) × (t ≡ u)

-- from s, the first events are made, and then those that the policy chooses, with these entries, up to t
pub record GoesBehind
    (rules : Rules) (n : ℕ) (s : State) (events : List Event) (stop : RunStop) (entries : List Entry)
    (t : State) : Type 0 where
  pub first_stop : RunStop
  pub first : List Entry
  pub between : State
  pub makes : MakesEvents s events first_stop first between
  pub follows : Follows rules n first_stop first between stop entries t

-- how many events a policy may choose behind so many, where a list of events is wanted: a schedule has at
-- most 16,777,216
abbrev pub events_left : ℕ → ℕ → ℕ
events_left n made = min n (16_777_216 - made)

-- none was refused
abbrev pub WasAccepted : RunStop → Type 0
WasAccepted stop = (k : ℕ) (refusal : Refusal) → stop ≢ Refused k refusal

-- from s these are the events that are made: the first ones, and behind them those that the policy
-- chooses; all are accepted
pub record ChoseBehind
    (rules : Rules) (n : ℕ) (s : State) (events : List Event) (chosen : List Event) : Type 0 where
  pub stop : RunStop
  pub entries : List Entry
  pub state : State
  pub goes : GoesBehind rules (events_left n (length events)) s events stop entries state
  pub accepted : WasAccepted stop
  pub events_are : chosen ≡ events_of entries

-- from s event k of these is the first that is refused, for this reason
abbrev pub RefusesFirst : State → List Event → ℕ → Refusal → Type 0
RefusesFirst s events k why =
    (entries : List Entry) × (t : State) × MakesEvents s events (Refused k why) entries t

-- all of the first events, and, where each was made in a state that is on, those that the policy chooses
-- behind them; all of its own are accepted
abbrev pub TakesAll :
    Rules → ℕ → RunStop → List Event → State → List Event → Type 0
TakesAll rules n End events u taken =
    (driven : Driven) × (more : List Entry) × (t : State) × Drives rules n u driven more t
    × ((refusal : Refusal) → driven.stop ≢ drive.Refused refusal)
    × (taken ≡ events ++ events_of more)
TakesAll rules n why events u taken = taken ≡ events

-- from s these are the events of a session that an order gives behind first ones
pub record TakesBehind
    (rules : Rules) (n : ℕ) (s : State) (events : List Event) (taken : List Event) : Type 0 where
  pub stop : RunStop
  pub entries : List Entry
  pub between : State
  pub makes : MakesEvents s events stop entries between
  pub takes : TakesAll rules (events_left n (length events)) stop events between taken
