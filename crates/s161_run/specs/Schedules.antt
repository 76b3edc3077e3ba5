use Rattle.std.specs.Prelude.{◌≡◌, ◌≢◌, ℕ, ◌≤◌, if◌then◌else◌, List, ◌++◌, length, Option}
use Rattle.m161_machine.specs.declared.conf.Conf.{Conf}
use Rattle.m161_machine.specs.declared.event.Entry.{Entry}
use Rattle.m161_machine.specs.declared.event.Event.{Event}
use Rattle.m161_machine.specs.declared.event.Refusal.{Refusal}
use Rattle.m161_machine.specs.declared.event.Refusal.TheVariants.{NoMemory}
use Rattle.m161_machine.specs.State.{State}
use Rattle.m161_steplog.specs.Schedule.{IsSchedule}
use Rattle.m161_steplog.specs.Written.{schedule_text}
use Rattle.m161_text.specs.Lines.{lines_of}
use Rattle.s161_command.specs.declared.task.ScheduleTask.{ScheduleTask}
use Rattle.s161_base.specs.declared.fault.Fault.{Fault}
use Rattle.s161_base.specs.declared.fault.Fault.TheVariants.{After}
use Rattle.s161_base.specs.Faults.{BootsIn}
use Rattle.s161_base.specs.Listed.{OfFirst}
use Rattle.s161_base.specs.Sizes.{size_line_text}
use Rattle.s161_run.specs.declared.events.RunStop.{RunStop}
use Rattle.s161_run.specs.declared.events.RunStop.TheVariants.{End}
use Rattle.s161_run.specs.Behind.{ChoseBehind, RefusesFirst}
use Rattle.s161_run.specs.Driven.{AreInputs, IsOrderFault, order_files, rules_of}
use Rattle.s161_run.specs.Runs.{MakesEvents, stop_off}

-- The output of `schedule`.

-- its files, in the order in which they are read
abbrev pub schedule_files : ScheduleTask → List (List ℕ)
schedule_files task = order_files task.image.now task.drive

-- a finished schedule: the machine line of the machine that was run, and the text of the events that
-- were made: the first ones, and those that the policy chose. It has these events where it is read,
-- unless they are more than a schedule can have; the files have these bytes, and that of the image, as
-- far as they are known
pub record IsScheduled
    (task : ScheduleTask) (files : List ℕ → Option (List ℕ)) (known : Option (List ℕ))
    (text : List ℕ) : Type 0 where
  pub file : List ℕ
  pub keys : List ℕ
  pub first : List Event
  pub conf : Conf
  pub inputs : AreInputs task.size task.drive files known file keys first conf
  pub booted : State
  pub boots : BootsIn file conf booted
  pub events : List Event
  pub chose : ChoseBehind (rules_of task.drive keys) task.drive.events booted first events
  pub text_is : text ≡ size_line_text conf ++ schedule_text events
  pub is_read : length events ≤ 16_777_216 → IsSchedule (lines_of text) events

-- why `run` makes no more events behind the last of a schedule, which led to this state
abbrev pub stop_behind : State → RunStop
stop_behind s = if s.board.off then stop_off s.conflict else End

-- `run` makes all of these events, with these entries, and ends in this state
abbrev pub RunsAsDriven : State → List Event → List Entry → State → Type 0
RunsAsDriven booted events entries s = MakesEvents booted events (stop_behind s) entries s

-- event k of the first ones is refused, once the image is booted, and not for want of memory
pub record IsFirstRefused (file : List ℕ) (first : List Event) (conf : Conf) (k : ℕ) (why : Refusal)
    : Type 0 where
  pub booted : State
  pub boots : BootsIn file conf booted
  pub refuses : RefusesFirst booted first k why
  pub not_memory : why ≢ NoMemory

-- what a fault that ends `schedule` says of its inputs: that an event of the first ones is refused; or
-- else what one of a run by an order says
abbrev pub IsScheduledFault :
    ScheduleTask → (List ℕ → Option (List ℕ)) → Option (List ℕ) → Fault → Type 0
IsScheduledFault task files known (After k why) =
    OfFirst task.size known task.drive.after files (λ file first conf.
    IsFirstRefused file first conf k why)
IsScheduledFault task files known fault =
    IsOrderFault task.image task.size task.drive files known fault
