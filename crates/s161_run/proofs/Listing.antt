use Rattle.std.proofs.Common.{◌≡◌, ℕ, Bor, List, Option, None, Some, IfSome, inl, inr}
use Rattle.m161_machine.specs.declared.conf.Conf.{Conf as MachineConf}
use Rattle.m161_machine.specs.declared.event.Event.{Event}
use Rattle.s161_command.specs.declared.drive.Drive.{Drive}
use Rattle.s161_command.specs.declared.task.AskedSize.{AskedSize}
use Rattle.s161_command.specs.declared.task.RunTask.{RunTask}
use Rattle.s161_base.proofs.Failing.{boot_failed}
use Rattle.s161_base.proofs.Listing.{named_fault}
use Rattle.s161_base.specs.declared.fault.Fault.{Fault}
use Rattle.s161_base.specs.declared.fault.Fault.TheVariants.{After, Conf, File, Image, Input, Log, LogImage, LogMachine, Memory, Never, Output, Schedule, Source, Threads, Touches, Watch, Watches, Word}
use Rattle.s161_base.specs.Faults.{IsBootFault}
use Rattle.s161_base.specs.Known.{IsText}
use Rattle.s161_base.specs.Listed.{IsListFault, IsTextOf, ListsFor, ListsNoFirst, ListsNone}
use Rattle.s161_run.specs.Driven.{AreInputs, IsOrderFault}
use Rattle.s161_run.specs.Runs.{IsFaultOf}

-- Why the events of a text aren't run.

-- a text lists no events: `P` is what is said of the fault
module _ (P : Fault → Type 0) (asked : AskedSize) (file text : List ℕ)
    (schedule : (n : ℕ) → IsListFault text (Schedule n) → P (Schedule n)) (log : (n : ℕ) → IsListFault text (Log n) → P (Log n)) (memory : P Memory)
    (machine : ListsNone asked file text LogMachine → P LogMachine) (image : ListsNone asked file text LogImage → P LogImage) where
  bad_line : (fault : Fault) → IsListFault text fault → P fault
  bad_line (Schedule n) h = schedule n h
  bad_line (Log n) h = log n h
  bad_line Memory h = memory
  bad_line Conf h = absurd h
  bad_line (Image e) h = absurd h
  bad_line (File name why) h = absurd h
  bad_line (Watches n) h = absurd h
  bad_line (Watch k) h = absurd h
  bad_line (Never word) h = absurd h
  bad_line (Touches word) h = absurd h
  bad_line (After k why) h = absurd h
  bad_line (Threads cause) h = absurd h
  bad_line (Input why) h = absurd h
  bad_line Word h = absurd h
  bad_line LogMachine h = absurd h
  bad_line LogImage h = absurd h
  bad_line Output h = absurd h
  bad_line (Source e) h = absurd h

  pub unlisted_by : (fault : Fault) → ListsNone asked file text fault → P fault
  unlisted_by fault (inl h) = bad_line fault h
  unlisted_by fault (inr x) =
      named_fault P asked file x.1 fault (λ e. machine (inr (x.0, x.1, x.2, e))) (λ e. image (inr (x.0, x.1, x.2, e))) x.3

module _ (task : RunTask) (known input : Option (List ℕ)) (file text : List ℕ) (is_file : IfSome known (λ bytes. file ≡ bytes))
    (is : IfSome input (λ bytes. text ≡ bytes)) (utf8 : IsText text) where
  pub unlisted : (fault : Fault) → ListsNone task.size file text fault → IsFaultOf task known input fault
  unlisted fault h =
      unlisted_by (IsFaultOf task known input) task.size file text (λ n bad. (text, is, (utf8, bad))) (λ n bad. (text, is, (utf8, bad))) tt
      (λ none. (file, is_file, (text, is, (utf8, none)))) (λ none. (file, is_file, (text, is, (utf8, none)))) fault h

  -- it lists events, and the image isn't booted
  pub unbooted : (events : List Event) (conf : MachineConf) (fault : Fault) → ListsFor task.size file text events conf →
      IsBootFault file conf fault → IsFaultOf task known input fault
  unbooted events conf fault lists h =
      boot_failed (IsFaultOf task known input) file conf fault
      (λ outside. (file, is_file, (text, is, (utf8, (events, conf, lists, outside)))))
      (λ why is_so. (file, is_file, (text, is, (utf8, (events, conf, lists, is_so)))))
      tt h

-- Why the first events of an order aren't listed.

module _ (image : Bor (List ℕ)) (size : AskedSize) (options : Drive) (files : List ℕ → Option (List ℕ)) (known : Option (List ℕ)) (file : List ℕ)
    (is_file : IfSome known (λ bytes. file ≡ bytes)) where
  abbrev OrderFault : Fault → Type 0
  OrderFault = IsOrderFault image size options files known

  pub no_first : (text : Option (List ℕ)) (fault : Fault) → IsTextOf options.after files text → ListsNoFirst size file text fault → OrderFault fault
  no_first None fault is h = absurd h
  no_first (Some text) fault is h =
      unlisted_by OrderFault size file text (λ n bad. (file, is_file, (Some text, is, inl bad))) (λ n bad. (file, is_file, (Some text, is, inl bad))) tt
      (λ none. (file, is_file, (Some text, is, none))) (λ none. (file, is_file, (Some text, is, none))) fault h

  -- they are listed, and the image isn't booted
  pub order_unbooted : (keys : List ℕ) (first : List Event) (conf : MachineConf) (fault : Fault) → AreInputs size options files known file keys first conf →
      IsBootFault file conf fault → OrderFault fault
  order_unbooted keys first conf fault inputs h =
      boot_failed OrderFault file conf fault
      (λ outside. (file, is_file, (inputs.text, first, conf, inputs.is_text, inputs.lists, outside)))
      (λ why is_so. (file, is_file, (inputs.text, first, conf, inputs.is_text, inputs.lists, is_so)))
      tt h
