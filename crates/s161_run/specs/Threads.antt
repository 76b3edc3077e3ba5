use Rattle.std.specs.Prelude.{◌≡◌, ℕ, ◌*◌, ◌≤◌, Bool, false, if◌then◌else◌, List, [], Option, None, Some, IfSome, replicate}
use Rattle.m161_machine.specs.declared.event.Conflict.{Conflict}
use Rattle.m161_machine.specs.Conf.{is_within_limits}
use Rattle.m161_machine.specs.History.{History, boot_fault, events_of}
use Rattle.m161_cause.specs.declared.cause.Cause.{Cause}
use Rattle.m161_threads.specs.Runs.{Interleaves, IsOfRun, bad_call}
use Rattle.s161_command.specs.declared.task.ThreadsTask.{ThreadsTask}
use Rattle.s161_run.specs.declared.events.RunStop.{RunStop}
use Rattle.s161_run.specs.declared.events.RunStop.TheVariants.{End}
use Rattle.s161_base.specs.declared.fault.Fault.{Fault}
use Rattle.s161_base.specs.declared.fault.Fault.TheVariants.{Conf, File, Image, Memory, Threads}
use Rattle.s161_run.specs.Runs.{shown_log, stop_off, summary_text, told_traps}
use Rattle.s161_base.specs.Faults.{BootsTo, IsUnloaded}
use Rattle.s161_base.specs.Known.{OfKnown}
use Rattle.s161_base.specs.Reading.{IsOfBytes}
use Rattle.s161_base.specs.Samples.{IsFileName}
use Rattle.s161_base.specs.Machines.{conf_asked}

-- The Steps, the output and the exit status of `run --threads`.

-- how a run in threads stopped, by whether the machine is off, and its conflict
abbrev pub stop_in_threads : Bool → Option Conflict → RunStop
stop_in_threads off conflict = if off then stop_off conflict else End

-- one thread for each processor
abbrev pub threads_of : ThreadsTask → ℕ
threads_of task = (conf_asked task.run.size).processors

-- a finished run in threads: what it prints and why it stopped; it has no notes; the image's file has these bytes,
-- as far as they are known. Its traps are those of the log, from the log's base on, which is the state
-- at boot where the log has room for each Step
pub record IsRunInThreads
    (task : ThreadsTask) (known : Option (List ℕ)) (text notes : List ℕ) (stop : RunStop) : Type 0 where
  pub file : List ℕ
  pub is_file : IfSome known (λ bytes. file ≡ bytes)
  pub booted : History
  pub boots : BootsTo file (conf_asked task.run.size) booted
  pub begins : bad_call (threads_of task) (threads_of task) task.burst ≡ None
  pub made : List ℕ
  pub off : Bool
  pub machine : History
  pub interleaves :
      Interleaves booted (replicate (threads_of task) task.quota) made off machine
  pub stop_is : stop ≡ stop_in_threads off machine.state.conflict
  pub from_boot :
      threads_of task * task.quota ≤ task.run.size.log → machine.base ≡ booted.state
  pub text_is :
      text ≡ summary_text (told_traps task.run.traps machine.base (events_of machine.log))
      (shown_log (conf_asked task.run.size) file machine.base.made machine.log) machine.state stop
      task.run.shown
  pub has_none : notes ≡ []

-- the cause of a run that doesn't begin for this reason; or of one that began
abbrev pub IsCause : Option Cause → Cause → Type 0
IsCause (Some first) cause = cause ≡ first
IsCause None cause = IsOfRun cause

-- what a fault that ends a run in threads says: of a file, that it is the image's; of the
-- configuration or the image, that the boot answers it; of the threads, that the image has no fault,
-- and when the cause comes. File and Memory hold whatever else is at fault
abbrev pub IsThreadsFault : ThreadsTask → Option (List ℕ) → Fault → Type 0
IsThreadsFault task known (File name why) =
    (name.now ≡ task.run.image.now) × IsFileName task.run.image.now × IsOfBytes why
IsThreadsFault task known Conf = is_within_limits (conf_asked task.run.size) ≡ false
IsThreadsFault task known (Image why) =
    OfKnown known (λ file. IsUnloaded file (conf_asked task.run.size) why)
IsThreadsFault task known (Threads cause) =
    OfKnown known (λ file. boot_fault file (conf_asked task.run.size) ≡ None)
    × IsCause (bad_call (threads_of task) (threads_of task) task.burst) cause
IsThreadsFault task known Memory = Unit {0}
IsThreadsFault task known _ = ⊥
