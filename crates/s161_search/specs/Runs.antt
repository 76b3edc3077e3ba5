use Rattle.std.specs.Prelude.{◌≡◌, ℕ, Bool, false, not, List, length, None}
use Rattle.m161_audit.specs.Watch.{AreGood, IsBad}
use Rattle.m161_judge.specs.declared.run.JudgedRun.{JudgedRun}
use Rattle.m161_judge.specs.Verdict.{IsJudged, has_keys, is_stuck}
use Rattle.m161_machine.specs.declared.event.Entry.{Entry}
use Rattle.m161_machine.specs.Conf.{is_within_limits}
use Rattle.m161_machine.specs.History.{IsBootState, boot_fault, events_of}
use Rattle.m161_machine.specs.State.{State}
use Rattle.m161_order.specs.declared.order.Order.{Order}
use Rattle.s161_base.specs.declared.fault.Fault.{Fault}
use Rattle.s161_base.specs.declared.fault.Fault.TheVariants.{After, Conf, Image, Memory, Watch}
use Rattle.s161_base.specs.Faults.{IsUnloaded}
use Rattle.s161_command.specs.declared.task.SearchTask.{SearchTask}
use Rattle.s161_run.specs.declared.events.RunStop.{RunStop}
use Rattle.s161_run.specs.declared.events.RunStop.TheVariants.{Off, Conflict, End, Stuck, Refused}
use Rattle.s161_run.specs.Behind.{GoesBehind, WasAccepted, events_left}
use Rattle.s161_run.specs.Driven.{rules_of}
use Rattle.s161_run.specs.Runs.{MakesEvents}
use Rattle.s161_run.specs.Schedules.{IsFirstRefused}
use Rattle.s161_search.specs.Given.{Given, criteria_of}

-- The runs of a search: the events that come first, and behind them those that an order chooses.

-- how many events an order chooses at most
abbrev pub most_of : SearchTask → Given → ℕ
most_of task given = events_left task.drive.events (length given.first)

-- a run ended only because no more events were asked for, though a policy with the keys that are left
-- would go on
abbrev pub is_cut : RunStop → Bool → State → Bool
is_cut Off keys_left s = false
is_cut (Conflict conflict) keys_left s = false
is_cut End keys_left s = not (is_stuck keys_left s)
is_cut Stuck keys_left s = false
is_cut (Refused k refusal) keys_left s = false

-- the run by an order, from the state at boot on, and its verdict, which is that of all of its events; no
-- watch is bad, and no event is refused
pub record IsRunOf (task : SearchTask) (given : Given) (order : Order) (run : JudgedRun) : Type 0 where
  pub good : (k : ℕ) → AreGood given.conf.ram given.watches k
  pub booted : State
  pub is_booted : IsBootState given.file given.conf booted
  pub stop : RunStop
  pub entries : List Entry
  pub state : State
  pub goes :
      GoesBehind (rules_of (record task.drive { order = order }) given.keys) (most_of task given) booted
      given.first stop entries state
  pub accepted : WasAccepted stop
  pub events_are : run.events.items ≡ events_of entries
  pub judged : IsJudged (criteria_of given) booted run.events.items run.judged
  pub cut : run.is_cut ≡ is_cut stop (has_keys given.all_keys run.events.items) state

-- the events that come first lead from the state at boot to this one: all of them, or those up to the one
-- that switches the machine off
pub record IsBehindFirst (given : Given) (u : State) : Type 0 where
  pub booted : State
  pub is_booted : IsBootState given.file given.conf booted
  pub stop : RunStop
  pub entries : List Entry
  pub makes : MakesEvents booted given.first stop entries u
  pub accepted : WasAccepted stop

-- why a run isn't made; that an event of the first ones is refused is known where nothing else is at fault.
-- Memory holds whatever else is
abbrev pub IsRunFault : Given → Fault → Type 0
IsRunFault given Conf = is_within_limits given.conf ≡ false
IsRunFault given (Image why) = IsUnloaded given.file given.conf why
IsRunFault given (Watch k) =
    (boot_fault given.file given.conf ≡ None)
    × IsBad given.conf.ram given.watches k × AreGood given.conf.ram given.watches k
IsRunFault given (After k why) =
    ((j : ℕ) → AreGood given.conf.ram given.watches j)
    × IsFirstRefused given.file given.first given.conf k why
IsRunFault given Memory = Unit {0}
IsRunFault given _ = ⊥
