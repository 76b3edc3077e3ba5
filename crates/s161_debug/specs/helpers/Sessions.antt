use Rattle.std.specs.Prelude.{◌≡◌, ◌⊎◌, ℕ, ◌<◌, Bool, true, false, not, ◌&&◌, bytes_eq, List, [], length, Option, None, Some, Result, Ok, Err, codes}
use Rattle.std.specs.Io.KnownBytes.{Appends, Consumes, IsAtEnd}
use Rattle.m161_machine.specs.declared.event.Event.{Event}
use Rattle.m161_text.specs.Lines.{with_line_end}
use Rattle.m161_text.specs.Parts.{Lacks}
use Rattle.m161_debug.specs.Breakpoints.{SessionState}
use Rattle.s161_base.specs.declared.fault.Fault.{Fault}
use Rattle.s161_base.specs.declared.fault.Fault.TheVariants.{Input, Memory, Output}
use Rattle.s161_base.specs.declared.fault.Unread.TheVariants.{Failed, NotUtf8, TooLong}
use Rattle.s161_base.specs.Known.{IsText}
use Rattle.s161_base.specs.Streams.{AppendsSome}
use Rattle.s161_debug.specs.declared.line.Line.{Line}
use Rattle.s161_debug.specs.Blanks.{spaced}
use Rattle.s161_debug.specs.Lines.{Does, asked_by}
use Rattle.s161_debug.specs.Notes.{TakesNotes, note_of}

-- The next line of a session.

-- the bytes of a line, with its end if it has one
abbrev pub bytes_of : Bool → List ℕ → List ℕ
bytes_of true line = with_line_end line
bytes_of false line = line

-- a line was read; only the last one may lack its end, and then it has a byte
abbrev pub ReadsBytes : Option (List ℕ) → Bool → List ℕ → Option (List ℕ) → Type 0
ReadsBytes input ended line left =
    Lacks 10 line × Consumes input left (bytes_of ended line)
    × (ended ≡ false → (0 < length line) × IsAtEnd left)

abbrev pub ReadsLine : Option (List ℕ) → Option Line → Option (List ℕ) → Type 0
ReadsLine input None left = IsAtEnd left × Consumes input left []
ReadsLine input (Some line) left =
    (bytes : List ℕ) × ReadsBytes input line.ended bytes left × (line.bytes.items ≡ spaced bytes)

-- why a line isn't read to its end
abbrev pub IsUnread : Fault → List ℕ → Type 0
IsUnread (Input Failed) part = Unit {0}
IsUnread (Input TooLong) part = 402_653_184 < length part
IsUnread Memory part = Unit {0}
IsUnread _ part = ⊥

-- the first bytes of a line were read
abbrev pub IsUnfinished : Option (List ℕ) → Option (List ℕ) → Fault → Type 0
IsUnfinished input left fault =
    (part : List ℕ) × Lacks 10 part × Consumes input left part × IsUnread fault part

-- where a session is: its state, the events that are left, and what the output and standard error hold
pub record Place : Type 0 where
  pub session : SessionState
  pub events : List Event
  pub output : Option (List ℕ)
  pub errors : Option (List ℕ)

abbrev pub place : SessionState → List Event → Option (List ℕ) → Option (List ℕ) → Place
place session events output errors = record {
  session = session;
  events = events;
  output = output;
  errors = errors;
}

-- a line is done, whose blanks are spaced; and of what it prints, and of the note on it, this is written
pub record Answers
    (line : List ℕ) (p : Place) (q : Place)
    (IsWritten : Option (List ℕ) → Option (List ℕ) → List ℕ → Type 0)
    (IsNoted : List ℕ → Option (List ℕ) → Option (List ℕ) → Type 0) : Type 0 where
  pub utf8 : IsText line
  pub printed : List ℕ
  pub does : Does (asked_by line) line p.session p.events q.session q.events printed
  pub written : IsWritten p.output q.output printed
  pub noted : IsNoted (note_of line printed) p.errors q.errors

-- nothing of a note is written; or some of it
abbrev pub TakesNone : List ℕ → Option (List ℕ) → Option (List ℕ) → Type 0
TakesNone note before after = after ≡ before

abbrev pub TakesSome : List ℕ → Option (List ℕ) → Option (List ℕ) → Type 0
TakesSome note before after = AppendsSome before after note

-- a line isn't done; or what it prints, or the note on it, isn't written
abbrev pub FailsTurn : Fault → List ℕ → Place → Place → Type 0
FailsTurn (Input NotUtf8) line p q =
    (¬ IsText line) × (q.output ≡ p.output) × (q.errors ≡ p.errors)
FailsTurn Output line p q =
    Answers line p q AppendsSome TakesNone ⊎ Answers line p q Appends TakesSome
FailsTurn _ line p q = ⊥

-- the result of doing a line: whether another may follow
abbrev pub DoesTurn : Bool → List ℕ → Place → Result Bool Fault → Place → Type 0
DoesTurn ended line p (Ok more) q =
    Answers line p q Appends TakesNotes
    × (more ≡ (ended && not (bytes_eq line (codes "quit"))))
DoesTurn ended line p (Err fault) q = FailsTurn fault line p q

-- there was no line
pub record Rests (input : Option (List ℕ)) (p : Place) (left : Option (List ℕ)) (q : Place)
    : Type 0 where
  pub at_end : IsAtEnd left
  pub same_input : Consumes input left []
  pub same : q ≡ p

-- a line was read, and this is the result of doing it
pub record TakesLine
    (input : Option (List ℕ)) (p : Place) (result : Result Bool Fault) (left : Option (List ℕ))
    (q : Place) : Type 0 where
  pub ended : Bool
  pub line : List ℕ
  pub reads : ReadsBytes input ended line left
  pub turn : DoesTurn ended (spaced line) p result q

-- the result of asking for the next line
abbrev pub Turns :
    Option (List ℕ) → Place → Result Bool Fault → Option (List ℕ) → Place → Type 0
Turns input p (Ok more) left q =
    (Rests input p left q × (more ≡ false)) ⊎ TakesLine input p (Ok more) left q
Turns input p (Err fault) left q =
    (IsUnfinished input left fault × (q.output ≡ p.output) × (q.errors ≡ p.errors))
    ⊎ TakesLine input p (Err fault) left q
