use Rattle.std.specs.Prelude.{◌≡◌, ◌⊎◌, ℕ, Bool, true, false, nat_eq, if◌then◌else◌, List, [], ◌∷◌, Option, None, Some, codes}
use Rattle.std.proofs.Common.{Bor}
use Rattle.std.specs.List.{starts_with}
use Rattle.m161_machine.specs.declared.conf.Conf.{Conf}
use Rattle.m161_machine.specs.declared.event.Entry.{Entry}
use Rattle.m161_machine.specs.declared.event.Event.{Event}
use Rattle.m161_machine.specs.History.{events_of}
use Rattle.m161_text.specs.Lines.{FirstBad, lines_of}
use Rattle.m161_steplog.specs.Comments.{IsFirstBadOfLog, is_comment}
use Rattle.m161_steplog.specs.Schedule.{AreScheduleLines, IsSchedule}
use Rattle.m161_steplog.specs.Size.{NamesSize}
use Rattle.s161_command.specs.declared.task.AskedSize.{AskedSize}
use Rattle.s161_base.specs.declared.fault.Fault.{Fault}
use Rattle.s161_base.specs.declared.fault.Fault.TheVariants.{Log, Memory, Schedule}
use Rattle.s161_base.specs.declared.machines.NamedMachine.{NamedMachine}
use Rattle.s161_base.specs.declared.machines.NamedMachine.TheVariants.{Logged, Sized}
use Rattle.s161_base.specs.Known.{OfKnown, OfText}
use Rattle.s161_base.specs.Machines.{IsLogOf, asked_conf, conf_asked, machine_fault}

-- The events of a text, which is a schedule or a log, and what it says of their machine.

-- the first of these lines that is no comment, or the empty line
abbrev pub first_plain : List (List ℕ) → List ℕ
first_plain [] = []
first_plain (line ∷ lines) = if is_comment line then first_plain lines else line

-- a text is a log's where that line begins so, else a schedule
unfoldable pub is_log : List ℕ → Bool
is_log text = starts_with nat_eq (first_plain (lines_of text)) (codes "m161 ")

-- the events of a log, whose outcomes don't count, and what it says of its machine
abbrev pub ListsLog : List ℕ → List Event → Option NamedMachine → Type 0
ListsLog text events (Some (Logged logged)) =
    (entries : List Entry) × IsLogOf text logged entries × (events ≡ events_of entries)
ListsLog text events _ = ⊥

-- what a schedule says of its machine: its machine line, if it has one
abbrev pub NamesSized : List ℕ → Option NamedMachine → Type 0
NamesSized text None = NamesSize text None
NamesSized text (Some (Sized size)) = NamesSize text (Some size)
NamesSized text _ = ⊥

-- the events of a text: those of a log, or those of a schedule
abbrev pub ListsAs : Bool → List ℕ → List Event → Option NamedMachine → Type 0
ListsAs true text events named = ListsLog text events named
ListsAs false text events named = IsSchedule (lines_of text) events × NamesSized text named

abbrev pub Lists : List ℕ → List Event → Option NamedMachine → Type 0
Lists text events named = ListsAs (is_log text) text events named

-- a text lists no events, by its first bad line; or memory was refused
abbrev pub IsListFault : List ℕ → Fault → Type 0
IsListFault text (Schedule n) = (is_log text ≡ false) × FirstBad AreScheduleLines text n
IsListFault text (Log n) = (is_log text ≡ true) × IsFirstBadOfLog text n
IsListFault text Memory = Unit {0}
IsListFault text _ = ⊥

-- a text lists these events for an image's file, in this machine: the one that is asked for, which is no
-- other than a log names
abbrev pub ListsFor : AskedSize → List ℕ → List ℕ → List Event → Conf → Type 0
ListsFor asked file text events conf =
    (named : Option NamedMachine) × Lists text events named
    × (machine_fault asked file named ≡ None) × (conf ≡ asked_conf asked named)

-- it lists none; or it does, and is a log that names another machine
abbrev pub ListsNone : AskedSize → List ℕ → List ℕ → Fault → Type 0
ListsNone asked file text fault =
    IsListFault text fault
    ⊎ ((events : List Event) × (named : Option NamedMachine) × Lists text events named
    × (machine_fault asked file named ≡ Some fault))

-- this holds of the image's file and of the machine of a text's events, as far as both are known
abbrev pub OfListed :
    AskedSize → Option (List ℕ) → Option (List ℕ) → (List ℕ → Conf → Type 0) → Type 0
OfListed asked image known IsSo =
    OfKnown image (λ file. OfText known (λ text. (events : List Event) × (conf : Conf)
    × ListsFor asked file text events conf × IsSo file conf))

-- this is why a text lists no events for an image's file, as far as both are known
abbrev pub OfUnlisted : AskedSize → Option (List ℕ) → Option (List ℕ) → Fault → Type 0
OfUnlisted asked image known fault =
    OfKnown image (λ file. OfText known (λ text. ListsNone asked file text fault))

-- The events that come before those of an order: those of the file of `--after`, if it is given.

-- a text is that of the file of a name, as far as its bytes are known; none without a name
abbrev pub IsTextOf :
    Option (Bor (List ℕ)) → (List ℕ → Option (List ℕ)) → Option (List ℕ) → Type 0
IsTextOf None files text = text ≡ None
IsTextOf (Some name) files text = OfText (files name.now) (λ bytes. text ≡ Some bytes)

-- these events come first, for an image's file, in this machine: those of a text; without one none
abbrev pub ListsFirst : AskedSize → List ℕ → Option (List ℕ) → List Event → Conf → Type 0
ListsFirst asked file None events conf = (events ≡ []) × (conf ≡ conf_asked asked)
ListsFirst asked file (Some text) events conf = ListsFor asked file text events conf

-- why a text lists none
abbrev pub ListsNoFirst : AskedSize → List ℕ → Option (List ℕ) → Fault → Type 0
ListsNoFirst asked file None fault = ⊥
ListsNoFirst asked file (Some text) fault = ListsNone asked file text fault

-- this holds of the image's file, of the events that come first and of the machine, as far as the files
-- are known
abbrev pub OfFirst :
    AskedSize → Option (List ℕ) → Option (Bor (List ℕ)) → (List ℕ → Option (List ℕ)) →
    (List ℕ → List Event → Conf → Type 0) → Type 0
OfFirst asked image name files IsSo =
    OfKnown image (λ file. (text : Option (List ℕ)) × (events : List Event) × (conf : Conf)
    × IsTextOf name files text × ListsFirst asked file text events conf × IsSo file events conf)

-- this is why no events come first, as far as the files are known
abbrev pub OfNoFirst :
    AskedSize → Option (List ℕ) → Option (Bor (List ℕ)) → (List ℕ → Option (List ℕ)) → Fault → Type 0
OfNoFirst asked image name files fault =
    OfKnown image (λ file. (text : Option (List ℕ)) × IsTextOf name files text
    × ListsNoFirst asked file text fault)
