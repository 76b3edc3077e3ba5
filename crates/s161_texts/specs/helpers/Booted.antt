use Rattle.std.specs.Prelude.{◌≡◌, ◌⊎◌, ℕ, ◌/◌, true, false, List, Option, None, Some}
use Rattle.std.proofs.Common.{Bor}
use Rattle.m161_machine.specs.declared.conf.Conf.{Conf}
use Rattle.m161_machine.specs.declared.event.Entry.{Entry}
use Rattle.m161_machine.specs.State.{State}
use Rattle.s161_base.specs.declared.fault.Fault.{Fault}
use Rattle.s161_base.specs.declared.fault.Fault.TheVariants.{Memory, Touches}
use Rattle.s161_base.specs.Faults.{BootsIn, IsBootFault}
use Rattle.s161_command.specs.declared.task.TraceTask.{TraceTask}
use Rattle.s161_run.specs.declared.events.RunStop.{RunStop}
use Rattle.s161_texts.specs.declared.filter.LineFilter.{LineFilter}
use Rattle.s161_texts.specs.declared.shared.SharedWords.{SharedWords}
use Rattle.s161_texts.specs.Traces.{IsAskedWord, IsNoWord, symbols_of}
use Rattle.s161_texts.specs.helpers.Printing.{FailsToPrintAll, FindsShared, PrintsAll, filter_of}

-- Runs from the boot of a file on, whose lines are printed.

-- a filter for what the task asks for of RAM, of so many bytes, but for the words that are shared
abbrev pub IsFilter : TraceTask → ℕ → List ℕ → LineFilter → Type 0
IsFilter task ram file w =
    IsAskedWord task ram file w.touches × (w ≡ filter_of task file w.touches None)

-- with other words that are shared
abbrev pub with_shared : LineFilter → Option SharedWords → LineFilter
with_shared w shared = record w { shared = shared }

-- these are the words that are shared, if the task asks for them
abbrev pub IsSharedIf :
    TraceTask → ℕ → State → (State → List Entry → RunStop → State → Type 0) → Option SharedWords →
    Type 0
IsSharedIf task ram s IsAll None = task.shared ≡ false
IsSharedIf task ram s IsAll (Some shared) =
    (task.shared ≡ true) × FindsShared (ram / 4) task.from task.count s IsAll shared

-- a filter for all that it asks for
abbrev pub IsWholeFilter :
    TraceTask → ℕ → List ℕ → State → (State → List Entry → RunStop → State → Type 0) →
    LineFilter → Type 0
IsWholeFilter task ram file s IsAll w =
    IsAskedWord task ram file w.touches × IsSharedIf task ram s IsAll w.shared
    × (w ≡ filter_of task file w.touches w.shared)

-- the file is booted in this machine, what the task asks for is found, events are made, and it is printed
pub record PrintsRun
    (task : TraceTask) (conf : Conf) (file : List ℕ) (IsAll : State → List Entry → RunStop → State → Type 0)
    (before after : Option (List ℕ)) (stop : RunStop) : Type 0 where
  pub booted : State
  pub boots : BootsIn file conf booted
  pub filter : LineFilter
  pub is_filter : IsWholeFilter task conf.ram file booted IsAll filter
  pub state : State
  pub prints : PrintsAll filter booted IsAll state before after stop

-- it isn't booted, and nothing is printed
pub record IsUnbooted
    (conf : Conf) (file : List ℕ) (before after : Option (List ℕ)) (fault : Fault)
    : Type 0 where
  pub is_boot_fault : IsBootFault file conf fault
  pub same : after ≡ before

-- the word that the task asks for stands for none, or memory was refused
abbrev pub IsUnasked : TraceTask → ℕ → List ℕ → Fault → Type 0
IsUnasked task ram file fault =
    (fault ≡ Memory)
    ⊎ ((text : Bor (List ℕ)) × (task.touches ≡ Some text)
    × IsNoWord (symbols_of task file) ram text.now × (fault ≡ Touches text))

-- it is booted, that is so, and nothing is printed
pub record LacksFilter
    (task : TraceTask) (conf : Conf) (file : List ℕ) (before after : Option (List ℕ)) (fault : Fault)
    : Type 0 where
  pub booted : State
  pub boots : BootsIn file conf booted
  pub is_unasked : IsUnasked task conf.ram file fault
  pub same : after ≡ before

-- it is booted, and the output or memory fails
pub record FailsBooted
    (task : TraceTask) (conf : Conf) (file : List ℕ) (IsSome : State → List Entry → State → Type 0)
    (IsAll : State → List Entry → RunStop → State → Type 0) (before after : Option (List ℕ))
    (fault : Fault) : Type 0 where
  pub booted : State
  pub boots : BootsIn file conf booted
  pub filter : LineFilter
  pub is_filter : IsWholeFilter task conf.ram file booted IsAll filter
  pub state : State
  pub fails : FailsToPrintAll filter booted IsSome IsAll state before after fault

abbrev pub FailsRun :
    TraceTask → Conf → List ℕ → (State → List Entry → State → Type 0) →
    (State → List Entry → RunStop → State → Type 0) → Option (List ℕ) → Option (List ℕ) →
    Fault → Type 0
FailsRun task conf file IsSome IsAll before after fault =
    IsUnbooted conf file before after fault
    ⊎ LacksFilter task conf file before after fault
    ⊎ FailsBooted task conf file IsSome IsAll before after fault
