use Rattle.std.specs.Prelude.{◌≡◌, ◌⊎◌, ℕ, false, List, [], ◌++◌, Option, None, Some, IfSome}
use Rattle.std.proofs.Common.{Bor}
use Rattle.m161_machine.specs.declared.conf.Conf.{Conf as MachineConf}
use Rattle.m161_machine.specs.declared.event.Entry.{Entry}
use Rattle.m161_machine.specs.declared.event.Event.{Event}
use Rattle.m161_machine.specs.Conf.{is_within_limits}
use Rattle.m161_machine.specs.History.{events_of}
use Rattle.m161_machine.specs.State.{State}
use Rattle.m161_drive.specs.declared.run.Driven.{Driven}
use Rattle.m161_drive.specs.Policy.{Rules}
use Rattle.s161_command.specs.declared.drive.Drive.{Drive}
use Rattle.s161_command.specs.declared.task.AskedSize.{AskedSize}
use Rattle.s161_command.specs.declared.task.DrivenTask.{DrivenTask}
use Rattle.s161_run.specs.declared.events.RunStop.{RunStop}
use Rattle.s161_run.specs.Behind.{GoesBehind, told}
use Rattle.s161_run.specs.Runs.{log_of_run, notes_text, summary_text, told_traps}
use Rattle.s161_base.specs.Asked.{image_files, option_files}
use Rattle.s161_base.specs.declared.fault.Fault.{Fault}
use Rattle.s161_base.specs.declared.fault.Fault.TheVariants.{Conf, File, Image, Log, LogImage, LogMachine, Memory, Schedule}
use Rattle.s161_base.specs.Faults.{BootsIn, IsUnloaded}
use Rattle.s161_base.specs.Listed.{IsTextOf, ListsFirst, OfFirst, OfNoFirst}
use Rattle.s161_base.specs.Reading.{IsFileUnread, IsOfBytes, IsTextUnread}
use Rattle.s161_base.specs.Samples.{IsFileName}

-- The inputs of a run by an order; and the events, the output and the exit status of `run` by one.

-- the files of a run by an order, in the order in which they are read
abbrev pub order_files : List ℕ → Drive → List (List ℕ)
order_files image options =
    image_files image ++ (option_files options.after ++ option_files options.keys)

-- its files
abbrev pub driven_files : DrivenTask → List (List ℕ)
driven_files task = order_files task.run.image.now task.drive

-- the policy of these options, with these keys
abbrev pub rules_of : Drive → List ℕ → Rules
rules_of options keys = record {
  order = options.order;
  transfer = options.transfer;
  gap = options.gap;
  keys = keys;
}

-- the keys are the bytes of the file of a name, as far as they are known, or none without a name
abbrev pub AreKeys : Option (Bor (List ℕ)) → (List ℕ → Option (List ℕ)) → List ℕ → Type 0
AreKeys None files keys = keys ≡ []
AreKeys (Some name) files keys = IfSome (files name.now) (λ bytes. keys ≡ bytes)

-- the inputs of a run by an order: the image's file, the keys, the events that come first, and the
-- machine; the files have these bytes, and that of the image, as far as they are known
pub record AreInputs
    (size : AskedSize) (options : Drive) (files : List ℕ → Option (List ℕ)) (known : Option (List ℕ))
    (file : List ℕ) (keys : List ℕ) (first : List Event) (conf : MachineConf) : Type 0 where
  pub is_file : IfSome known (λ bytes. file ≡ bytes)
  pub text : Option (List ℕ)
  pub is_text : IsTextOf options.after files text
  pub are_keys : AreKeys options.keys files keys
  pub lists : ListsFirst size file text first conf

-- how a driven run stopped that ended in this state
abbrev pub stop_of : Driven → State → RunStop
stop_of driven s = told driven.made s.conflict driven.stop

-- a finished driven run: what it prints, its notes, and why it stopped; the files have these bytes, and that of
-- the image, as far as they are known
pub record IsDriven
    (task : DrivenTask) (files : List ℕ → Option (List ℕ)) (known : Option (List ℕ))
    (text notes : List ℕ) (stop : RunStop) : Type 0 where
  pub file : List ℕ
  pub keys : List ℕ
  pub first : List Event
  pub conf : MachineConf
  pub inputs : AreInputs task.run.size task.drive files known file keys first conf
  pub booted : State
  pub boots : BootsIn file conf booted
  pub entries : List Entry
  pub state : State
  pub goes :
      GoesBehind (rules_of task.drive keys) task.drive.events booted first stop entries state
  pub text_is :
      text
      ≡ summary_text (told_traps task.run.traps booted (events_of entries))
      (log_of_run conf file entries) state stop task.run.shown
  pub notes_are : notes ≡ notes_text file booted entries

-- a fault is that of the file of the keys
abbrev pub IsKeysFile : Option (Bor (List ℕ)) → Fault → Type 0
IsKeysFile None fault = ⊥
IsKeysFile (Some name) fault = IsFileUnread name IsOfBytes fault

-- what a fault that ends a run by an order says of its inputs: of a file, that it is the image's, that
-- of the first events or the keys'; of the text of the first events, its first bad line; then, that it
-- has none, and names another machine or another image; of the configuration or the image, that the text
-- had no fault, and that the boot answers it. File and Memory hold whatever else is at fault
abbrev pub IsOrderFault :
    Bor (List ℕ) → AskedSize → Drive → (List ℕ → Option (List ℕ)) → Option (List ℕ) → Fault → Type 0
IsOrderFault image size options files known (File name why) =
    ((name.now ≡ image.now) × IsFileName image.now × IsOfBytes why)
    ⊎ (IsTextUnread options.after files (File name why) ⊎ IsKeysFile options.keys (File name why))
IsOrderFault image size options files known (Schedule n) =
    OfNoFirst size known options.after files (Schedule n)
IsOrderFault image size options files known (Log n) =
    OfNoFirst size known options.after files (Log n)
IsOrderFault image size options files known LogMachine =
    OfNoFirst size known options.after files LogMachine
IsOrderFault image size options files known LogImage =
    OfNoFirst size known options.after files LogImage
IsOrderFault image size options files known Conf =
    OfFirst size known options.after files (λ file first conf. is_within_limits conf ≡ false)
IsOrderFault image size options files known (Image why) =
    OfFirst size known options.after files (λ file first conf. IsUnloaded file conf why)
IsOrderFault image size options files known Memory = Unit {0}
IsOrderFault image size options files known _ = ⊥

-- what a fault that ends a driven run says of its inputs
abbrev pub IsDrivenFault :
    DrivenTask → (List ℕ → Option (List ℕ)) → Option (List ℕ) → Fault → Type 0
IsDrivenFault task = IsOrderFault task.run.image task.run.size task.drive
