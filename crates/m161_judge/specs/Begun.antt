use Rattle.std.specs.Prelude.{◌≡◌, ◌≢◌, ℕ, ◌≤◌, false, List, [], ◌∷◌, ◌++◌, length, slice_get, Some, Result, Ok, Err}
use Rattle.m161_machine.specs.declared.conf.BootError.TheVariants.{NoMemory}
use Rattle.m161_machine.specs.declared.event.Entry.{Entry}
use Rattle.m161_machine.specs.declared.event.Event.{Event}
use Rattle.m161_machine.specs.declared.event.Event.TheVariants.{Step, Key, Done}
use Rattle.m161_machine.specs.declared.event.Refusal.{Refusal}
use Rattle.m161_machine.specs.History.{events_of}
use Rattle.m161_machine.specs.State.{State}
use Rattle.m161_audit.specs.declared.finding.AuditError.{AuditError}
use Rattle.m161_audit.specs.declared.finding.AuditError.TheVariants.{Boot}
use Rattle.m161_drive.specs.declared.cursor.Cursor.{Cursor}
use Rattle.m161_drive.specs.declared.run.Driven.{Driven}
use Rattle.m161_drive.specs.declared.run.Stop.TheVariants.{Refused}
use Rattle.m161_drive.specs.Choice.{cursor_at}
use Rattle.m161_drive.specs.Drive.{Chooses, Drives}
use Rattle.m161_drive.specs.Policy.{Rules}
use Rattle.m161_judge.specs.declared.first.First.{First}
use Rattle.m161_judge.specs.declared.run.JudgedRun.{JudgedRun}
use Rattle.m161_judge.specs.Run.{is_cut}
use Rattle.m161_judge.specs.Seen.{HasSeen}
use Rattle.m161_judge.specs.Verdict.{Criteria, IsJudged, after, has_keys}

-- Runs that a policy chooses behind first events, and that were begun.

-- the bytes that these events type
abbrev pub keys_in : List Event → List ℕ
keys_in [] = []
keys_in (Step p ∷ es) = keys_in es
keys_in (Key byte ∷ es) = byte ∷ keys_in es
keys_in (Done ∷ es) = keys_in es

-- this is kept of the first events of a run from s on, which lead to u
pub record IsFirstOf (goal : Criteria) (s : State) (fs : List Event) (u : State) (first : First) : Type 0 where
  pub made_is : first.made ≡ length fs
  pub leads : after s fs ≡ Some u
  pub looked : HasSeen goal s fs (length fs) first.seen

-- by what a run is judged that a policy chooses behind first events, which lead to u: the keys are theirs
-- and then the policy's, unless u is off, where it chooses none
abbrev pub AreKeysBehind : Criteria → List Event → State → Rules → Type 0
AreKeysBehind goal fs u rules = u.board.off ≡ false → goal.keys ≡ keys_in fs ++ rules.keys

-- these are the first events, which lead to u, and behind them the first ones, at most n, of the run that
-- a policy chooses from u on; they led to this cursor and state
pub record IsBegun
    (rules : Rules) (n : ℕ) (fs : List Event) (u : State) (c : Cursor) (t : State) (events : List Event)
    : Type 0 where
  pub entries : List Entry
  pub few : length entries ≤ n
  pub events_are : events ≡ fs ++ events_of entries
  pub chosen_are : Chooses rules (slice_get rules.keys) (cursor_at rules u) u entries c t

-- the run of first events from s on, which lead to u, and of at most n that a policy chooses from u on,
-- and its verdict; no event is refused
pub record IsRunBehind
    (rules : Rules) (n : ℕ) (goal : Criteria) (s : State) (fs : List Event) (u : State) (run : JudgedRun)
    : Type 0 where
  pub driven : Driven
  pub entries : List Entry
  pub state : State
  pub drives : Drives rules n u driven entries state
  pub accepted : (refusal : Refusal) → driven.stop ≢ Refused refusal
  pub events_are : run.events.items ≡ fs ++ events_of entries
  pub judged : IsJudged goal s run.events.items run.judged
  pub cut : run.is_cut ≡ is_cut driven.stop (has_keys goal.keys run.events.items) state

-- or memory was refused
abbrev pub RunsBehind :
    Rules → ℕ → Criteria → State → List Event → State → Result JudgedRun AuditError → Type 0
RunsBehind rules n goal s fs u (Ok run) = IsRunBehind rules n goal s fs u run
RunsBehind rules n goal s fs u (Err error) = error ≡ Boot NoMemory
