use Rattle.std.specs.Prelude.{◌≡◌, ◌⊎◌, ℕ, List, ◌++◌, Option, IfSome}
use Rattle.std.specs.declared.alloc.AllocError.{AllocError}
use Rattle.m161_machine.specs.declared.event.Event.{Event}
use Rattle.m161_machine.specs.History.{History}
use Rattle.m161_moves.specs.Course.{Course}
use Rattle.m161_replay.specs.Replays.{course_of}
use Rattle.m161_server.specs.declared.fault.ServerFault.{ServerFault}
use Rattle.m161_server.specs.declared.fault.ServerFault.TheVariants as server
use Rattle.m161_server.specs.Serving.{Breaks, Ends}
use Rattle.m161_server.specs.Streams.{Streams as ServerStreams, streams}
use Rattle.s161_command.specs.declared.task.GdbTask.{GdbTask}
use Rattle.s161_base.specs.Asked.{image_files}
use Rattle.s161_base.specs.declared.fault.Fault.{Fault}
use Rattle.s161_base.specs.declared.fault.Fault.TheVariants.{Input, Memory, Output}
use Rattle.s161_base.specs.declared.fault.Unread.TheVariants.{Failed}
use Rattle.s161_base.specs.Streams.{AreUntouched, Streams}
use Rattle.s161_debug.specs.Debugs.{IsOpened, IsUnopened, source_files}

-- Serving GDB on a run, whose inputs are those of `debug`.

-- its files, in the order in which they are read
abbrev pub gdb_files : GdbTask → List (List ℕ)
gdb_files task = image_files task.image.now ++ source_files task.source

-- the run of a task: its image's file was booted, and these are the events; the files have these bytes,
-- and that of the image, as far as they are known
pub record OpensRun
    (task : GdbTask) (files : List ℕ → Option (List ℕ)) (image : Option (List ℕ))
    (booted : History) (events : List Event) : Type 0 where
  pub file : List ℕ
  pub is_file : IfSome image (λ bytes. file ≡ bytes)
  pub opened : IsOpened task.source task.size files file booted events

-- what a client goes along
abbrev pub run_of : History → List Event → Course
run_of booted events = course_of booted.state events

abbrev pub served : Streams → ServerStreams
served x = streams x.input x.left x.before x.after

-- a finished session
pub record IsGdb
    (task : GdbTask) (files : List ℕ → Option (List ℕ)) (image : Option (List ℕ)) (x : Streams)
    : Type 0 where
  pub booted : History
  pub events : List Event
  pub opens : OpensRun task files image booted events
  pub ends : Ends (run_of booted events) 0 (served x)

-- a fault of a session, as the program tells it
abbrev pub told_as : ServerFault AllocError → Fault
told_as server.Input = Input Failed
told_as server.Output = Output
told_as server.Memory = Memory
told_as (server.Run error) = Memory

-- a fault in the session
pub record FailsInServing
    (task : GdbTask) (files : List ℕ → Option (List ℕ)) (image : Option (List ℕ)) (x : Streams)
    (fault : Fault) : Type 0 where
  pub booted : History
  pub events : List Event
  pub opens : OpensRun task files image booted events
  pub why : ServerFault AllocError
  pub breaks : Breaks (λ error. Unit {0}) (run_of booted events) 0 (served x) why
  pub fault_is : fault ≡ told_as why

-- a fault that ends the task: before the session, and the streams are untouched; or in it
abbrev pub IsGdbFault :
    GdbTask → (List ℕ → Option (List ℕ)) → Option (List ℕ) → Streams → Fault → Type 0
IsGdbFault task files image x fault =
    (IsUnopened task.image task.source task.size files image fault × AreUntouched x)
    ⊎ FailsInServing task files image x fault
