use Rattle.std.specs.Prelude.{◌≡◌, ◌⊎◌, ℕ, ◌≤◌, true, false, List, [], ◌++◌, length, take, Option, IfSome}
use Rattle.std.specs.Io.KnownBytes.{Appends, Consumes}
use Rattle.m161_machine.specs.declared.event.Entry.{Entry}
use Rattle.m161_machine.specs.Conf.{is_within_limits}
use Rattle.m161_machine.specs.State.{State}
use Rattle.m161_drive.specs.declared.cursor.Cursor.{Cursor}
use Rattle.m161_drive.specs.declared.run.Driven.{Driven}
use Rattle.m161_drive.specs.declared.run.Stop.{Stop as DriveStop}
use Rattle.m161_drive.specs.declared.run.Stop.TheVariants as drive
use Rattle.m161_drive.specs.Choice.{chosen, wants_key}
use Rattle.m161_drive.specs.Drive.{Drives}
use Rattle.m161_drive.specs.Policy.{Rules}
use Rattle.s161_command.specs.declared.drive.Drive.{Drive}
use Rattle.s161_command.specs.declared.task.ConsoleTask.{ConsoleTask}
use Rattle.s161_run.specs.declared.events.RunStop.{RunStop}
use Rattle.s161_base.specs.declared.fault.Fault.{Fault}
use Rattle.s161_base.specs.declared.fault.Fault.TheVariants.{Conf, File, Image, Input, Memory, Output}
use Rattle.s161_base.specs.declared.fault.Unread.TheVariants.{Failed}
use Rattle.s161_base.specs.Faults.{BootsIn, IsUnloaded}
use Rattle.s161_base.specs.Known.{OfKnown}
use Rattle.s161_base.specs.Reading.{IsOfBytes}
use Rattle.s161_base.specs.Samples.{IsFileName}
use Rattle.s161_base.specs.Sizes.{conf_of}
use Rattle.s161_base.specs.Streams.{AreUntouched, Streams}
use Rattle.s161_run.specs.Driven.{rules_of, stop_of}

-- A driven run whose keys are an input, and whose console writes to an output.

-- how many keys a run has taken where it stops: those that it typed, and one more if the event that
-- is refused is a key
abbrev pub keys_taken : Rules → Cursor → State → DriveStop → ℕ
keys_taken rules c s drive.Off = c.typed
keys_taken rules c s drive.End = c.typed
keys_taken rules c s drive.Stuck = c.typed
keys_taken rules c s (drive.Refused refusal) = (chosen rules c s).1.typed

-- a driven run of at most n events, with all bytes of the input as its keys, from one state to
-- another. Exactly those that it took were read, and all that the console has sent was written, but
-- for some bytes at its end
pub record Serves
    (options : Drive) (n : ℕ) (s : State) (x : Streams) (driven : Driven) (t : State)
    (unwritten : List ℕ) : Type 0 where
  pub keys : List ℕ
  pub are_keys : IfSome x.input (λ bytes. keys ≡ bytes)
  pub entries : List Entry
  pub drives : Drives (rules_of options keys) n s driven entries t
  pub are_read : Consumes x.input x.left
      (take (keys_taken (rules_of options keys) drives.cursor t driven.stop) keys)
  pub written : List ℕ
  pub are_sent : t.board.console.output ≡ written ++ unwritten
  pub are_written : Appends x.before x.after written

-- the input fails: some events were made, and a key is wanted
pub record InputFails (options : Drive) (s : State) (x : Streams) : Type 0 where
  pub n : ℕ
  pub few : n ≤ options.events
  pub driven : Driven
  pub state : State
  pub serves : Serves options n s x driven state []
  pub is_wanted : wants_key (rules_of options serves.keys) serves.drives.cursor state ≡ true

-- the output fails: some events were made, and at most the last byte isn't written
pub record OutputFails (options : Drive) (s : State) (x : Streams) : Type 0 where
  pub n : ℕ
  pub few : n ≤ options.events
  pub driven : Driven
  pub unwritten : List ℕ
  pub at_most_one : length unwritten ≤ 1
  pub state : State
  pub serves : Serves options n s x driven state unwritten

-- which stream a fault is of, and how it fails
abbrev pub Fails : Drive → State → Streams → Fault → Type 0
Fails options s x (Input why) = (why ≡ Failed) × InputFails options s x
Fails options s x Output = OutputFails options s x
Fails options s x _ = ⊥

-- the task's image is booted; its file has these bytes, as far as they are known
pub record BootsFor
    (task : ConsoleTask) (known : Option (List ℕ)) (booted : State) : Type 0 where
  pub file : List ℕ
  pub is_file : IfSome known (λ bytes. file ≡ bytes)
  pub boots : BootsIn file (conf_of task.size) booted

-- a finished run, and why it stopped
pub record IsConsoleRun
    (task : ConsoleTask) (known : Option (List ℕ)) (x : Streams) (stop : RunStop) : Type 0 where
  pub booted : State
  pub boots : BootsFor task known booted
  pub driven : Driven
  pub state : State
  pub serves : Serves task.drive task.drive.events booted x driven state []
  pub stop_is : stop ≡ stop_of driven state

-- what a fault before the run says of its inputs. File and Memory hold whatever else is at fault
abbrev pub IsEarlyFault : ConsoleTask → Option (List ℕ) → Fault → Type 0
IsEarlyFault task known (File name why) =
    (name.now ≡ task.image.now) × IsFileName task.image.now × IsOfBytes why
IsEarlyFault task known Conf = is_within_limits (conf_of task.size) ≡ false
IsEarlyFault task known (Image why) =
    OfKnown known (λ file. IsUnloaded file (conf_of task.size) why)
IsEarlyFault task known Memory = Unit {0}
IsEarlyFault task known _ = ⊥

-- a fault in the run
abbrev pub FailsInRun : ConsoleTask → Option (List ℕ) → Streams → Fault → Type 0
FailsInRun task known x fault =
    (booted : State) × BootsFor task known booted × Fails task.drive booted x fault

-- a fault that ends the task: before the run, and the streams are untouched; or in the run
abbrev pub IsConsoleFault : ConsoleTask → Option (List ℕ) → Streams → Fault → Type 0
IsConsoleFault task known x fault =
    (IsEarlyFault task known fault × AreUntouched x) ⊎ FailsInRun task known x fault
