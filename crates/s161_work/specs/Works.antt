use Rattle.std.specs.Prelude.{◌≡◌, ◌⊎◌, ℕ, List, [], ◌∷◌, ◌++◌, Option, None, Some, codes}
use Rattle.std.specs.Io.KnownBytes.{Appends}
use Rattle.clap.specs.Words.{IsAmong, Text, fault_of, subcommand_of}
use Rattle.clap.specs.declared.error.kind.ErrorKind.{ErrorKind}
use Rattle.s161_command.specs.declared.drive.Clash.{Clash}
use Rattle.s161_command.specs.declared.task.ConsoleTask.{ConsoleTask}
use Rattle.s161_command.specs.declared.task.DebugTask.{DebugTask}
use Rattle.s161_command.specs.declared.task.GdbTask.{GdbTask}
use Rattle.s161_command.specs.declared.task.Shown.{Shown}
use Rattle.s161_command.specs.declared.task.TraceTask.{TraceTask}
use Rattle.s161_command.specs.declared.task.Task.{Task}
use Rattle.s161_command.specs.declared.task.Task.TheVariants.{Assemble, Audit, Console, Debug, Demo, Disassemble, Explore, Gdb, Replay, Run, RunDriven, RunInThreads, Schedule, Search, Trace}
use Rattle.m161_text.specs.Lines.{with_line_end}
use Rattle.s161_texts.specs.Assemblies.{IsAssembled}
use Rattle.s161_search.specs.Audits.{IsAudited, audit_files}
use Rattle.s161_command.specs.Commands.{ClashesIn, GoTogether, IsAccepted, IsHelp, IsTask, command_line, never_of}
use Rattle.s161_run.specs.Consoles.{IsConsoleRun}
use Rattle.s161_base.specs.Asked.{Asks, image_files}
use Rattle.s161_base.specs.Streams.{Streams, streams}
use Rattle.s161_debug.specs.Debugs.{IsDebug, debug_files}
use Rattle.s161_debug.specs.Gdb.{IsGdb, gdb_files}
use Rattle.s161_run.specs.Driven.{IsDriven, driven_files}
use Rattle.s161_run.specs.Schedules.{IsScheduled, schedule_files}
use Rattle.s161_run.specs.Demos.{IsDemo}
use Rattle.s161_texts.specs.Listings.{IsDisassembled}
use Rattle.s161_run.specs.Replays.{IsReplayed, replay_files}
use Rattle.s161_run.specs.Runs.{IsRun, status_of, stop_line, told_text}
use Rattle.s161_run.specs.declared.events.RunStop.{RunStop}
use Rattle.s161_search.specs.Explores.{IsExplored, as_search}
use Rattle.s161_search.specs.Given.{search_files}
use Rattle.s161_search.specs.Searches.{IsSearched}
use Rattle.s161_base.specs.Samples.{image_file}
use Rattle.s161_run.specs.Threads.{IsRunInThreads}
use Rattle.s161_texts.specs.Traces.{IsTraced, trace_files}

-- The effect of a command line.

-- what is known of the bytes that standard input has left, and that standard output and standard
-- error hold
pub record Standard : Type 0 where
  pub input : Option (List ℕ)
  pub output : Option (List ℕ)
  pub errors : Option (List ℕ)

abbrev pub standard : Option (List ℕ) → Option (List ℕ) → Option (List ℕ) → Standard
standard input output errors = record { input = input; output = output; errors = errors }

-- a task's files, in the order in which it reads them
abbrev pub files_of : Task → List Text
files_of Demo = []
files_of (Run task) = image_files task.image.now
files_of (RunInThreads task) = image_files task.run.image.now
files_of (RunDriven task) = driven_files task
files_of (Schedule task) = schedule_files task
files_of (Console task) = image_files task.image.now
files_of (Trace task) = trace_files task
files_of (Debug task) = debug_files task
files_of (Gdb task) = gdb_files task
files_of (Search task) = search_files task
files_of (Explore task) = search_files (as_search task)
files_of (Replay task) = replay_files task
files_of (Audit task) = audit_files task
files_of (Assemble task) = []
files_of (Disassemble task) = image_files task.image.now

-- how files were used: what is known of the bytes of each, and of the names that files were asked for
-- by, in order, before and after a command
pub record FileUse : Type 0 where
  pub known : Text → Option (List ℕ)
  pub before : Option (List Text)
  pub after : Option (List Text)

abbrev pub file_use :
    (Text → Option (List ℕ)) → Option (List Text) → Option (List Text) → FileUse
file_use known before after = record { known = known; before = before; after = after }

-- no file was asked for
abbrev pub IsUnasked : FileUse → Type 0
IsUnasked files = files.after ≡ files.before

-- a text was written to an output, which had the first bytes and has the second; where it is empty,
-- nothing was written
abbrev pub Tells : List ℕ → Option (List ℕ) → Option (List ℕ) → Type 0
Tells told before after = Appends before after told × (told ≡ [] → after ≡ before)

-- there are such texts with this exit status; the first was written to standard output, and the second
-- to standard error
abbrev pub Prints : (List ℕ → List ℕ → ℕ → Type 0) → Standard → Standard → ℕ → Type 0
Prints IsResult before after status =
    (text : List ℕ) × (told : List ℕ) × IsResult text told status
    × Appends before.output after.output text × Tells told before.errors after.errors

-- the same of commands whose only exit status is 0
abbrev pub WithZero : (List ℕ → Type 0) → List ℕ → ℕ → Type 0
WithZero IsResult text status = (status ≡ 0) × IsResult text

-- the same of commands that say nothing on standard error
abbrev pub Silently : (List ℕ → ℕ → Type 0) → List ℕ → List ℕ → ℕ → Type 0
Silently IsResult text told status = (told ≡ []) × IsResult text status

-- the same of a run: why it stopped is its exit status, and is said on standard error where what it
-- prints doesn't say it; behind that its notes are said
abbrev pub OfRun : Shown → (List ℕ → List ℕ → RunStop → Type 0) → List ℕ → List ℕ → ℕ → Type 0
OfRun shown IsRan text told status =
    (stop : RunStop) × (notes : List ℕ) × IsRan text notes stop
    × (told ≡ told_text stop shown ++ notes) × (status ≡ status_of stop)

-- a finished task's text, what it says on standard error, and its exit status, over files and a standard
-- input with these bytes, and with these words for the addresses of `--never`; a task that writes as it
-- goes on has no such text
abbrev pub IsResultOf :
    List Text → Task → (Text → Option (List ℕ)) → Option (List ℕ) → List ℕ → List ℕ → ℕ → Type 0
IsResultOf never Demo files input = Silently (WithZero IsDemo)
IsResultOf never (Run task) files input =
    OfRun task.shown (IsRun task (image_file files task.image.now) input)
IsResultOf never (RunInThreads task) files input =
    OfRun task.run.shown (IsRunInThreads task (image_file files task.run.image.now))
IsResultOf never (RunDriven task) files input =
    OfRun task.run.shown (IsDriven task files (image_file files task.run.image.now))
IsResultOf never (Schedule task) files input =
    Silently (WithZero (IsScheduled task files (image_file files task.image.now)))
IsResultOf never (Console task) files input = λ text told status. ⊥
IsResultOf never (Trace task) files input = λ text told status. ⊥
IsResultOf never (Debug task) files input = λ text told status. ⊥
IsResultOf never (Gdb task) files input = λ text told status. ⊥
IsResultOf never (Search task) files input =
    IsSearched task never files (image_file files task.image.now)
IsResultOf never (Explore task) files input =
    IsExplored task never files (image_file files task.image.now)
IsResultOf never (Replay task) files input =
    Silently (IsReplayed task (image_file files task.image.now) (files task.text.now))
IsResultOf never (Audit task) files input =
    IsAudited task (image_file files task.image.now) (files task.text.now) input
IsResultOf never (Assemble task) files input = Silently (WithZero (IsAssembled task input))
IsResultOf never (Disassemble task) files input =
    Silently (WithZero (IsDisassembled task (image_file files task.image.now)))

-- a kernel ran at the terminal, and why it stopped was written to standard error
pub record IsServed
    (task : ConsoleTask) (files : Text → Option (List ℕ)) (before after : Standard) (status : ℕ)
    : Type 0 where
  pub stop : RunStop
  pub ran : IsConsoleRun task (image_file files task.image.now)
      (streams before.input after.input before.output after.output) stop
  pub is_told : Appends before.errors after.errors (with_line_end (stop_line stop))
  pub status_is : status ≡ status_of stop

-- standard input and standard output
abbrev pub streams_of : Standard → Standard → Streams
streams_of before after = streams before.input after.input before.output after.output

-- a run was traced, and nothing was written to standard error
pub record IsTracedOut
    (task : TraceTask) (files : Text → Option (List ℕ)) (before after : Standard) (status : ℕ)
    : Type 0 where
  pub stop : RunStop
  pub traced :
      IsTraced task files (image_file files task.image.now) (streams_of before after) stop
  pub is_silent : after.errors ≡ before.errors
  pub status_is : status ≡ status_of stop

-- the commands of a debugger were answered, and the notes on them were written to standard error
pub record IsDebuggedOut
    (task : DebugTask) (files : Text → Option (List ℕ)) (before after : Standard) (status : ℕ)
    : Type 0 where
  pub debugged :
      IsDebug task files (image_file files task.image.now) (streams_of before after) before.errors
      after.errors
  pub status_is : status ≡ 0

-- a client of GDB's protocol was answered, and nothing was written to standard error
pub record IsGdbOut
    (task : GdbTask) (files : Text → Option (List ℕ)) (before after : Standard) (status : ℕ)
    : Type 0 where
  pub answered : IsGdb task files (image_file files task.image.now) (streams_of before after)
  pub is_silent : after.errors ≡ before.errors
  pub status_is : status ≡ 0

-- the tasks that write as they go on
pub data Going : Type 0 where
  serving : ConsoleTask → Going
  tracing : TraceTask → Going
  debugging : DebugTask → Going
  answering : GdbTask → Going

abbrev pub going_of : Task → Option Going
going_of (Console task) = Some (serving task)
going_of (Trace task) = Some (tracing task)
going_of (Debug task) = Some (debugging task)
going_of (Gdb task) = Some (answering task)
going_of _ = None

-- a task that reads nothing of standard input
abbrev pub ReadsNoInput : Task → Type 0
ReadsNoInput Demo = Unit {0}
ReadsNoInput (Run task) = ⊥
ReadsNoInput (RunInThreads task) = Unit {0}
ReadsNoInput (RunDriven task) = Unit {0}
ReadsNoInput (Schedule task) = Unit {0}
ReadsNoInput (Console task) = ⊥
ReadsNoInput (Trace task) = ⊥
ReadsNoInput (Debug task) = ⊥
ReadsNoInput (Gdb task) = ⊥
ReadsNoInput (Search task) = Unit {0}
ReadsNoInput (Explore task) = Unit {0}
ReadsNoInput (Replay task) = Unit {0}
ReadsNoInput (Audit task) = ⊥
ReadsNoInput (Assemble task) = ⊥
ReadsNoInput (Disassemble task) = Unit {0}

-- and so it read nothing of it
abbrev pub LeavesInput : Task → Option (List ℕ) → Option (List ℕ) → Type 0
LeavesInput task before after = ReadsNoInput task → after ≡ before

-- a task was finished with this exit status: one that writes as it goes on; or it printed its text, and
-- said what it says on standard error
abbrev pub FinishesAs :
    Option Going → List Text → Task → (Text → Option (List ℕ)) → Standard → Standard → ℕ → Type 0
FinishesAs (Some (serving console)) never task files before after status =
    IsServed console files before after status
FinishesAs (Some (tracing trace)) never task files before after status =
    IsTracedOut trace files before after status
FinishesAs (Some (debugging debug)) never task files before after status =
    IsDebuggedOut debug files before after status
FinishesAs (Some (answering gdb)) never task files before after status =
    IsGdbOut gdb files before after status
FinishesAs None never task files before after status =
    Prints (IsResultOf never task files before.input) before after status
    × LeavesInput task before.input after.input

abbrev pub Finishes :
    List Text → Task → (Text → Option (List ℕ)) → Standard → Standard → ℕ → Type 0
Finishes never task files before after status =
    FinishesAs (going_of task) never task files before after status

-- clap gives help or the version for these words of a command line
abbrev pub GivesHelp : List Text → Type 0
GivesHelp words =
    (kind : ErrorKind) × IsHelp kind × IsAmong kind (fault_of command_line words)

-- a command line's task was finished, over these files and streams, and asked for all of its files
abbrev pub Does : List Text → FileUse → Standard → Standard → ℕ → Type 0
Does words files before after status =
    (task : Task) × IsTask (subcommand_of command_line words) task
    × Finishes (never_of words) task files.known before after status × Asks (files_of task) files.before files.after

-- an output got a text behind the bytes that it had. Nothing is known of the text; it may be empty
abbrev pub HasMore : Option (List ℕ) → Option (List ℕ) → Type 0
HasMore before after = (text : List ℕ) × Appends before after text

-- the exit status of a command that finished without a fault and without a refused event
abbrev pub IsDone : ℕ → Type 0
IsDone status = (status ≡ 0) ⊎ (status ≡ 3) ⊎ (status ≡ 4) ⊎ (status ≡ 5) ⊎ (status ≡ 6)

-- a command line was followed, and its task finished as `Does` says; or it asks for help or for the
-- version: clap's text, of which nothing is known, was printed, with the status 0, no file was asked
-- for, and nothing was read of standard input or written to standard error
abbrev pub Follows : List Text → FileUse → Standard → Standard → ℕ → Type 0
Follows words files before after status =
    (IsAccepted words × GoTogether (subcommand_of command_line words)
    × Does words files before after status)
    ⊎ (GivesHelp words × (status ≡ 0) × IsUnasked files × (after.input ≡ before.input)
    × HasMore before.output after.output × (after.errors ≡ before.errors))

-- clap takes the words, and the options can't be followed
abbrev pub IsClashing : List Text → Type 0
IsClashing words =
    (clash : Clash) × IsAccepted words × ClashesIn (subcommand_of command_line words) clash

-- a command line isn't followed: clap doesn't take the words, or the options can't be followed
abbrev pub IsRefused : List Text → Type 0
IsRefused words = (¬ IsAccepted words) ⊎ IsClashing words

-- what is said of options that can't be followed. Nothing is known of the part that says why
abbrev pub IsClashText : List ℕ → Type 0
IsClashText text =
    (why : List ℕ)
    × (text
    ≡ codes "error: "
    ++ (why ++ 10 ∷ 10 ∷ with_line_end (codes "For more information, try '--help'.")))

-- an output got such a text
abbrev pub HasClashText : Option (List ℕ) → Option (List ℕ) → Type 0
HasClashText before after = (text : List ℕ) × IsClashText text × Appends before after text

-- so standard error got clap's text, of which nothing is known; or what is said of the options
abbrev pub SaysWhy : List Text → Option (List ℕ) → Option (List ℕ) → Type 0
SaysWhy words before after =
    ((¬ IsAccepted words) × HasMore before after) ⊎ (IsClashing words × HasClashText before after)

-- and no file was asked for, nothing was read of standard input, nor written to standard output
abbrev pub Rejects : List Text → FileUse → Standard → Standard → Type 0
Rejects words files before after =
    SaysWhy words before.errors after.errors × IsUnasked files
    × (after.input ≡ before.input) × (after.output ≡ before.output)
