use Rattle.std.specs.Prelude.{◌≡◌, ◌≢◌, ◌⊎◌, ℕ, ◌<◌, List, [], ◌∷◌, ◌++◌, flat_map, length, take, Option, codes}
use Rattle.std.specs.List.{AllByRecursion}
use Rattle.std.specs.Io.KnownBytes.{Appends, Consumes, IsAtEnd}
use Rattle.m161_machine.specs.declared.event.Event.{Event}
use Rattle.m161_machine.specs.History.{History}
use Rattle.m161_text.specs.Lines.{lines_of, text_of}
use Rattle.m161_text.specs.Parts.{Lacks}
use Rattle.m161_debug.specs.Breakpoints.{SessionState}
use Rattle.m161_dis.specs.declared.naming.Style.{Style}
use Rattle.s161_base.specs.declared.fault.Fault.{Fault}
use Rattle.s161_base.specs.declared.fault.Fault.TheVariants.{Input, Memory, Output}
use Rattle.s161_base.specs.declared.fault.Unread.TheVariants.{Failed, NotUtf8, TooLong}
use Rattle.s161_base.specs.Known.{IsText}
use Rattle.s161_base.specs.Streams.{Streams}
use Rattle.s161_debug.specs.Blanks.{spaced}
use Rattle.s161_debug.specs.Lines.{DoesLines}
use Rattle.s161_debug.specs.Notes.{TakesNotes, notes_of}

-- How a session ends, which reads its lines and writes what they print.

-- a session of a machine in this style, without breakpoints
abbrev pub session_of : History → Style → SessionState
session_of m style = record { machine = m; breakpoints = []; style = style }

-- a line is `quit`, with blanks around it or none
abbrev pub IsQuit : List ℕ → Type 0
IsQuit line = spaced line ≡ codes "quit"

-- the session goes on after a line: it isn't `quit`, and what it counts as is UTF-8
abbrev pub IsPassed : List ℕ → Type 0
IsPassed line = IsText (spaced line) × (spaced line ≢ codes "quit")

-- all of these lines are passed, and the input is at its end; or `quit` follows them
abbrev pub IsLast : List (List ℕ) → Option (List ℕ) → Type 0
IsLast lines left =
    (AllByRecursion IsPassed lines × IsAtEnd left)
    ⊎ ((passed : List (List ℕ)) × (last : List ℕ) × AllByRecursion IsPassed passed × IsQuit last
    × (lines ≡ passed ++ last ∷ []))

-- what was printed, one text after the other
abbrev pub all_of : List (List ℕ) → List ℕ
all_of answers = flat_map (λ answer. answer) answers

-- a session that has ended. The bytes that were read are its lines; all that these print was written,
-- and the notes on them to standard error, which had the first bytes and has the second
pub record Ends
    (s : SessionState) (events : List Event) (x : Streams) (errors told : Option (List ℕ))
    : Type 0 where
  pub bytes : List ℕ
  pub are_read : Consumes x.input x.left bytes
  pub last : IsLast (lines_of bytes) x.left
  pub answers : List (List ℕ)
  pub does : DoesLines (lines_of bytes) s events answers
  pub are_written : Appends x.before x.after (all_of answers)
  pub are_noted : TakesNotes (notes_of (lines_of bytes) answers) errors told

-- a text is one line, with or without its end, and the line is so
abbrev pub IsOneLine : (List ℕ → Type 0) → List ℕ → Type 0
IsOneLine IsSo text = (line : List ℕ) × (lines_of text ≡ line ∷ []) × IsSo line

-- what was read behind the lines that were passed, by the fault that ends a session: the input
-- failed, a line was too long, or memory was refused for its bytes, before the line's end; a line
-- that isn't UTF-8; the line whose answer, or the note on it, couldn't be written
abbrev pub IsBehind : Fault → List ℕ → Type 0
IsBehind (Input Failed) part = Lacks 10 part
IsBehind (Input TooLong) part = Lacks 10 part × (402_653_184 < length part)
IsBehind (Input NotUtf8) part = IsOneLine (λ line. ¬ IsText (spaced line)) part
IsBehind Memory part = Lacks 10 part
IsBehind Output part = IsOneLine (λ line. IsText (spaced line)) part
IsBehind _ part = ⊥

-- an output has these bytes, and the first of those
abbrev pub AppendsUpTo :
    Option (List ℕ) → Option (List ℕ) → List ℕ → List ℕ → Type 0
AppendsUpTo old new bytes more = (n : ℕ) × Appends old new (bytes ++ take n more)

-- what was written: all that the lines print that were passed, and all notes on them. Where an output
-- failed, also the first bytes of what the next one prints; or all of that, and the first bytes of the
-- note on it
abbrev pub IsWritten :
    Fault → SessionState → List Event → List (List ℕ) → List ℕ → List (List ℕ) → Streams →
    Option (List ℕ) → Option (List ℕ) → Type 0
IsWritten Output s events lines part answers x errors told =
    (answer : List ℕ) × DoesLines (lines ++ lines_of part) s events (answers ++ answer ∷ [])
    × ((AppendsUpTo x.before x.after (all_of answers) answer
    × TakesNotes (notes_of lines answers) errors told)
    ⊎ (Appends x.before x.after (all_of answers ++ answer)
    × AppendsUpTo errors told (notes_of lines answers) (notes_of (lines_of part) (answer ∷ []))))
IsWritten _ s events lines part answers x errors told =
    Appends x.before x.after (all_of answers) × TakesNotes (notes_of lines answers) errors told

-- a fault ended a session. Some whole lines were passed before
pub record Breaks
    (s : SessionState) (events : List Event) (x : Streams) (errors told : Option (List ℕ))
    (fault : Fault) : Type 0 where
  pub passed : List (List ℕ)
  pub are_lines : AllByRecursion (Lacks 10) passed
  pub are_passed : AllByRecursion IsPassed passed
  pub part : List ℕ
  pub is_behind : IsBehind fault part
  pub are_read : Consumes x.input x.left (text_of passed ++ part)
  pub answers : List (List ℕ)
  pub does : DoesLines passed s events answers
  pub is_written : IsWritten fault s events passed part answers x errors told
