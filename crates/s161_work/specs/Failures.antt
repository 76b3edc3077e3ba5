use Rattle.std.specs.Prelude.{◌≡◌, ◌⊎◌, ℕ, List, Option, None, Some}
use Rattle.std.specs.Io.KnownBytes.{Appends}
use Rattle.clap.specs.Words.{Text, subcommand_of}
use Rattle.m161_text.specs.Lines.{with_line_end}
use Rattle.s161_command.specs.declared.task.ConsoleTask.{ConsoleTask}
use Rattle.s161_command.specs.declared.task.DebugTask.{DebugTask}
use Rattle.s161_command.specs.declared.task.GdbTask.{GdbTask}
use Rattle.s161_command.specs.declared.task.TraceTask.{TraceTask}
use Rattle.s161_command.specs.declared.task.Task.{Task}
use Rattle.s161_command.specs.declared.task.Task.TheVariants.{Assemble, Audit, Console, Debug, Demo, Disassemble, Explore, Gdb, Replay, Run, RunDriven, RunInThreads, Schedule, Search, Trace}
use Rattle.s161_command.specs.Commands.{GoTogether, IsAccepted, IsTask, command_line, never_of}
use Rattle.s161_base.specs.Asked.{AsksUntil, IsBeforeInput}
use Rattle.s161_base.specs.declared.fault.Fault.{Fault}
use Rattle.s161_base.specs.declared.fault.Fault.TheVariants.{Memory, Output}
use Rattle.s161_base.specs.FaultLines.{fault_line}
use Rattle.s161_base.specs.Samples.{image_file}
use Rattle.s161_base.specs.Streams.{AppendsSome}
use Rattle.s161_search.specs.Audits.{IsAuditFault}
use Rattle.s161_run.specs.Consoles.{IsConsoleFault, IsConsoleRun}
use Rattle.s161_debug.specs.Debugs.{IsDebugFault}
use Rattle.s161_debug.specs.Gdb.{IsGdbFault}
use Rattle.s161_run.specs.Driven.{IsDrivenFault}
use Rattle.s161_run.specs.Schedules.{IsScheduledFault}
use Rattle.s161_run.specs.Replays.{IsReplayFault}
use Rattle.s161_run.specs.Runs.{IsFaultOf, stop_line}
use Rattle.s161_run.specs.declared.events.RunStop.{RunStop}
use Rattle.s161_search.specs.Explores.{as_search}
use Rattle.s161_search.specs.Searches.{IsSearchFault}
use Rattle.s161_run.specs.Threads.{IsThreadsFault}
use Rattle.s161_texts.specs.Traces.{IsTraceFault}
use Rattle.s161_work.specs.Assemblies.{IsAssemblyFault}
use Rattle.s161_work.specs.Listings.{IsListingFault}
use Rattle.s161_work.specs.Works.{Does, FileUse, GivesHelp, Going, HasMore, IsRefused, IsResultOf, IsUnasked, LeavesInput, Standard, answering, debugging, files_of, going_of, serving, standard, streams_of, tracing}

-- How a command line ends with the status 1.

-- a task's work is ended by this fault, before anything is printed; one that writes as it goes on isn't
-- meant
abbrev pub IsTaskFault : List Text → Task → (Text → Option (List ℕ)) → Option (List ℕ) → Fault → Type 0
IsTaskFault never Demo files input fault = fault ≡ Memory
IsTaskFault never (Run task) files input fault =
    IsFaultOf task (image_file files task.image.now) input fault
IsTaskFault never (RunInThreads task) files input fault =
    IsThreadsFault task (image_file files task.run.image.now) fault
IsTaskFault never (RunDriven task) files input fault =
    IsDrivenFault task files (image_file files task.run.image.now) fault
IsTaskFault never (Schedule task) files input fault =
    IsScheduledFault task files (image_file files task.image.now) fault
IsTaskFault never (Console task) files input fault = ⊥
IsTaskFault never (Trace task) files input fault = ⊥
IsTaskFault never (Debug task) files input fault = ⊥
IsTaskFault never (Gdb task) files input fault = ⊥
IsTaskFault never (Search task) files input fault =
    IsSearchFault task never files (image_file files task.image.now) fault
IsTaskFault never (Explore task) files input fault =
    IsSearchFault (as_search task) never files (image_file files task.image.now) fault
IsTaskFault never (Replay task) files input fault =
    IsReplayFault task (image_file files task.image.now) (files task.text.now) fault
IsTaskFault never (Audit task) files input fault =
    IsAuditFault task (image_file files task.image.now) (files task.text.now) input fault
IsTaskFault never (Assemble task) files input fault = IsAssemblyFault input fault
IsTaskFault never (Disassemble task) files input fault =
    IsListingFault task.image.now (image_file files task.image.now) fault

-- of these texts some of the first was written to standard output, and nothing to standard error; or
-- all of it, and some of the second
abbrev pub WritesSome : List ℕ → List ℕ → Standard → Standard → Type 0
WritesSome text told before after =
    (AppendsSome before.output after.output text × (after.errors ≡ before.errors))
    ⊎ (Appends before.output after.output text × AppendsSome before.errors after.errors told)

-- there are such texts with an exit status, and some of them was written
abbrev pub PrintsSome : (List ℕ → List ℕ → ℕ → Type 0) → Standard → Standard → Type 0
PrintsSome IsResult before after =
    (text : List ℕ) × (told : List ℕ) × (status : ℕ) × IsResult text told status
    × WritesSome text told before after

-- there were such texts, and an output failed, which has some of its text; or there was this fault
-- before, and the outputs are unchanged
abbrev pub Fails :
    (List ℕ → List ℕ → ℕ → Type 0) → (Fault → Type 0) → Standard → Standard → Fault → Type 0
Fails IsResult IsFault before after fault =
    ((fault ≡ Output) × PrintsSome IsResult before after)
    ⊎ (IsFault fault × (after.output ≡ before.output) × (after.errors ≡ before.errors))

-- why a kernel at the terminal stopped wasn't told: memory was refused; or standard error failed, which
-- has some of it
abbrev pub IsUntold : RunStop → Option (List ℕ) → Option (List ℕ) → Fault → Type 0
IsUntold stop before after fault =
    ((fault ≡ Memory) × (after ≡ before))
    ⊎ ((fault ≡ Output) × AppendsSome before after (with_line_end (stop_line stop)))

-- a kernel at the terminal was ended by this fault, and nothing was written to standard error; or it
-- ran, and why it stopped wasn't told
abbrev pub FailsToServe :
    ConsoleTask → (Text → Option (List ℕ)) → Standard → Standard → Fault → Type 0
FailsToServe task files before after fault =
    let known = image_file files task.image.now in
    let x = streams_of before after in
    (IsConsoleFault task known x fault × (after.errors ≡ before.errors))
    ⊎ ((stop : RunStop) × IsConsoleRun task known x stop
    × IsUntold stop before.errors after.errors fault)

-- a traced run is ended by this fault, and nothing was written to standard error
abbrev pub FailsToTrace :
    TraceTask → (Text → Option (List ℕ)) → Standard → Standard → Fault → Type 0
FailsToTrace task files before after fault =
    IsTraceFault task files (image_file files task.image.now) (streams_of before after) fault
    × (after.errors ≡ before.errors)

-- a debugger's session is ended by this fault, and notes were written to standard error
abbrev pub FailsToDebug :
    DebugTask → (Text → Option (List ℕ)) → Standard → Standard → Fault → Type 0
FailsToDebug task files before after fault =
    IsDebugFault task files (image_file files task.image.now) (streams_of before after)
    before.errors after.errors fault

-- so is a session of GDB, and nothing was written to standard error
abbrev pub FailsToAnswer :
    GdbTask → (Text → Option (List ℕ)) → Standard → Standard → Fault → Type 0
FailsToAnswer task files before after fault =
    IsGdbFault task files (image_file files task.image.now) (streams_of before after) fault
    × (after.errors ≡ before.errors)

-- a task is ended by this fault: one that writes as it goes on; or before or while its texts are written
abbrev pub FailsAs :
    Option Going → List Text → Task → (Text → Option (List ℕ)) → Standard → Standard → Fault → Type 0
FailsAs (Some (serving console)) never task files before after fault =
    FailsToServe console files before after fault
FailsAs (Some (tracing trace)) never task files before after fault =
    FailsToTrace trace files before after fault
FailsAs (Some (debugging debug)) never task files before after fault =
    FailsToDebug debug files before after fault
FailsAs (Some (answering gdb)) never task files before after fault =
    FailsToAnswer gdb files before after fault
FailsAs None never task files before after fault =
    Fails (IsResultOf never task files before.input) (IsTaskFault never task files before.input)
    before after fault
    × LeavesInput task before.input after.input

-- the line of a fault was written to standard error, as far as that took it
abbrev pub IsReported : Fault → Option (List ℕ) → Option (List ℕ) → Type 0
IsReported fault before after = AppendsSome before after (with_line_end (fault_line fault))

-- standard error failed while a text was written to it, and has some of that; and then as much as it
-- took of the line of this fault
abbrev pub FailsToSay : List ℕ → Option (List ℕ) → Option (List ℕ) → Type 0
FailsToSay text before after =
    (between : Option (List ℕ)) × AppendsSome before between text × IsReported Output between after

-- a command line's task was ended by a fault, over these files and streams, which was told then. Its
-- files were asked for up to that fault, and one of a file came before anything was read of standard
-- input
abbrev pub FailsToDo : List Text → FileUse → Standard → Standard → Type 0
FailsToDo words files before after =
    (task : Task) × IsTask (subcommand_of command_line words) task
    × ((fault : Fault) × (errors : Option (List ℕ))
    × FailsAs (going_of task) (never_of words) task files.known before (standard after.input after.output errors) fault
    × AsksUntil (files_of task) files.before files.after fault
    × IsBeforeInput fault before.input after.input
    × IsReported fault errors after.errors)

-- what a command line with the status 1 did
pub data EndsBadly
    (words : List Text) (files : FileUse) (before after : Standard) : Type 0 where
  -- it was followed, and its task finished with a refused event
  finished :
      IsAccepted words → GoTogether (subcommand_of command_line words) →
      Does words files before after 1 → EndsBadly words files before after
  -- it was followed, and a fault ended its task
  failed :
      IsAccepted words → GoTogether (subcommand_of command_line words) →
      FailsToDo words files before after → EndsBadly words files before after
  -- it asks for help or for the version, and standard output failed
  unhelped :
      GivesHelp words → IsUnasked files → after.input ≡ before.input →
      HasMore before.output after.output → IsReported Output before.errors after.errors →
      EndsBadly words files before after
  -- memory was refused before it was known what it asks for, or before that was said
  unread :
      IsUnasked files → after.input ≡ before.input → after.output ≡ before.output →
      IsReported Memory before.errors after.errors → EndsBadly words files before after
  -- it isn't followed, and standard error failed while that was said
  unsaid :
      IsRefused words → IsUnasked files → after.input ≡ before.input →
      after.output ≡ before.output →
      (text : List ℕ) × FailsToSay text before.errors after.errors →
      EndsBadly words files before after
