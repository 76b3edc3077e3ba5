use Rattle.std.proofs.Common.{Bor}
use Rattle.std.specs.Prelude.{◌≡◌, ◌⊎◌, ℕ, List, [], ◌∷◌, ◌++◌, Option, Some, IfSome}
use Rattle.m161_machine.specs.declared.conf.Conf.{Conf as MachineConf}
use Rattle.m161_machine.specs.declared.event.Event.{Event}
use Rattle.m161_machine.specs.History.{History}
use Rattle.m161_machine.specs.State.{State}
use Rattle.m161_dis.specs.declared.naming.Style.{Style}
use Rattle.s161_command.specs.declared.task.AskedSize.{AskedSize}
use Rattle.s161_command.specs.declared.task.DebugTask.{DebugTask}
use Rattle.s161_command.specs.declared.task.Source.{Source}
use Rattle.s161_command.specs.declared.task.Source.TheVariants as source
use Rattle.s161_base.specs.Asked.{image_files, option_files}
use Rattle.s161_base.specs.declared.fault.Fault.{Fault}
use Rattle.s161_base.specs.declared.fault.Fault.TheVariants.{Memory}
use Rattle.s161_base.specs.Faults.{BootsTo, IsBootFault}
use Rattle.s161_base.specs.Known.{OfKnown, OfText}
use Rattle.s161_base.specs.Listed.{IsTextOf, ListsFirst, ListsNoFirst}
use Rattle.s161_base.specs.Naming.{style_of}
use Rattle.s161_base.specs.Reading.{IsFileUnread, IsOfBytes, IsOfText, IsTextUnread}
use Rattle.s161_base.specs.Samples.{IsFileName}
use Rattle.s161_base.specs.Streams.{AreUntouched, Streams}
use Rattle.s161_run.specs.Behind.{TakesBehind}
use Rattle.s161_run.specs.Driven.{AreKeys, IsKeysFile, rules_of}
use Rattle.s161_debug.specs.Sessions.{Breaks, Ends, session_of}

-- The inputs of `debug`: its image, and its list of events.

-- its files, in the order in which they are read: the image's, and that of the events; or those of an
-- order, if they are given: that of the events that come first, and that of the keys
abbrev pub source_files : Source → List (List ℕ)
source_files (source.File name) = name.now ∷ []
source_files (source.Driven drive) = option_files drive.after ++ option_files drive.keys

abbrev pub debug_files : DebugTask → List (List ℕ)
debug_files task = image_files task.image.now ++ source_files task.source

-- where the events come from, for an image's file in this machine, whose run begins with this state: they
-- are those of a file's text; or those of the text of `--after`, if it is given, and behind them those
-- that an order chooses, whose keys are the bytes of a file
abbrev pub ComesFrom :
    Source → AskedSize → (List ℕ → Option (List ℕ)) → List ℕ → MachineConf → State → List Event →
    Type 0
ComesFrom (source.File name) size files file conf s events =
    OfText (files name.now) (λ text. ListsFirst size file (Some text) events conf)
ComesFrom (source.Driven drive) size files file conf s events =
    (text : Option (List ℕ)) × (first : List Event) × (keys : List ℕ)
    × IsTextOf drive.after files text × ListsFirst size file text first conf
    × AreKeys drive.keys files keys × TakesBehind (rules_of drive keys) drive.events s first events

-- a session's machine was booted from a file, and these are its events
pub record IsOpened
    (from : Source) (size : AskedSize) (files : List ℕ → Option (List ℕ)) (file : List ℕ)
    (booted : History) (events : List Event) : Type 0 where
  pub conf : MachineConf
  pub come : ComesFrom from size files file conf booted.state events
  pub boots : BootsTo file conf booted

-- the session of a task: its image's file was booted, and the image's names are those of addresses if
-- that is asked for; the files have these bytes, and that of the image, as far as they are known
pub record Opens
    (task : DebugTask) (files : List ℕ → Option (List ℕ)) (image : Option (List ℕ))
    (booted : History) (events : List Event) (style : Style) : Type 0 where
  pub file : List ℕ
  pub is_file : IfSome image (λ bytes. file ≡ bytes)
  pub opened : IsOpened task.source task.size files file booted events
  pub style_is : style ≡ style_of task.registers task.symbols task.image.now file

-- a finished session; standard error had the first bytes and has the second
pub record IsDebug
    (task : DebugTask) (files : List ℕ → Option (List ℕ)) (image : Option (List ℕ)) (x : Streams)
    (errors told : Option (List ℕ)) : Type 0 where
  pub booted : History
  pub events : List Event
  pub style : Style
  pub opens : Opens task files image booted events style
  pub ends : Ends (session_of booted style) events x errors told

-- why an image's file isn't booted in the machine of a text's events, if there is a text: it lists none,
-- or is a log of another machine or image; or else it is no image of that machine
abbrev pub IsUnbooted : AskedSize → List ℕ → Option (List ℕ) → Fault → Type 0
IsUnbooted size file text fault =
    ListsNoFirst size file text fault
    ⊎ ((events : List Event) × (conf : MachineConf) × ListsFirst size file text events conf
    × IsBootFault file conf fault)

-- why a session isn't opened over an image's file: a file of its source isn't read; or the image isn't
-- booted
abbrev pub IsSourceFault :
    Source → AskedSize → (List ℕ → Option (List ℕ)) → List ℕ → Fault → Type 0
IsSourceFault (source.File name) size files file fault =
    IsFileUnread name (IsOfText (files name.now)) fault
    ⊎ OfText (files name.now) (λ text. IsUnbooted size file (Some text) fault)
IsSourceFault (source.Driven drive) size files file fault =
    IsTextUnread drive.after files fault ⊎ IsKeysFile drive.keys fault
    ⊎ ((text : Option (List ℕ)) × IsTextOf drive.after files text × IsUnbooted size file text fault)

-- why the run of an image's file of this name isn't opened: memory was refused, whatever else is at
-- fault; or the image's file isn't read; or the source's fault
abbrev pub IsUnopened :
    Bor (List ℕ) → Source → AskedSize → (List ℕ → Option (List ℕ)) → Option (List ℕ) → Fault → Type 0
IsUnopened name from size files image fault =
    (fault ≡ Memory) ⊎ (IsFileUnread name IsOfBytes fault × IsFileName name.now)
    ⊎ OfKnown image (λ file. IsSourceFault from size files file fault)

-- a fault before the session
abbrev pub IsEarlyFault :
    DebugTask → (List ℕ → Option (List ℕ)) → Option (List ℕ) → Fault → Type 0
IsEarlyFault task = IsUnopened task.image task.source task.size

-- a fault in the session
abbrev pub FailsInSession :
    DebugTask → (List ℕ → Option (List ℕ)) → Option (List ℕ) → Streams → Option (List ℕ) →
    Option (List ℕ) → Fault → Type 0
FailsInSession task files image x errors told fault =
    (booted : History) × (events : List Event) × (style : Style)
    × Opens task files image booted events style
    × Breaks (session_of booted style) events x errors told fault

-- a fault that ends the task: before the session, and the streams are untouched; or in it
abbrev pub IsDebugFault :
    DebugTask → (List ℕ → Option (List ℕ)) → Option (List ℕ) → Streams → Option (List ℕ) →
    Option (List ℕ) → Fault → Type 0
IsDebugFault task files image x errors told fault =
    (IsEarlyFault task files image fault × AreUntouched x × (told ≡ errors))
    ⊎ FailsInSession task files image x errors told fault
