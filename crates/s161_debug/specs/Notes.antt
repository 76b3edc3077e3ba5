use Rattle.std.specs.Prelude.{◌≡◌, ℕ, Bool, ◌||◌, if◌then◌else◌, bytes_eq, List, [], ◌∷◌, ◌++◌, Option, codes}
use Rattle.std.specs.Io.KnownBytes.{Appends}
use Rattle.m161_debug.specs.declared.command.CommandError.TheVariants.{BadArgument, Unknown}
use Rattle.m161_debug.specs.Commands.{first_word, name_of_error}
use Rattle.m161_text.specs.Lines.{with_line_end}
use Rattle.m161_text.specs.Parts.{◌␣◌}
use Rattle.s161_debug.specs.Blanks.{spaced}
use Rattle.s161_debug.specs.Lines.{error_line}

-- What standard error gets with the answers of a session: a note on each line that is no command, or
-- that has other arguments than its command's.

-- what each command takes behind its word
abbrev pub commands : List (List ℕ × List ℕ)
commands =
    (codes "b", codes "a processor, then an address or a name") ∷
    (codes "d", codes "a processor, then an address or a name") ∷
    (codes "s", codes "a processor, and for several Steps how many, 1 to 1000000") ∷
    (codes "k", codes "a byte in two lower case hexadecimal digits") ∷
    (codes "o", codes "nothing behind it") ∷
    (codes "g", codes "nothing behind it, or how many events") ∷
    (codes "u", codes "m ADDR of a word of RAM, t P, r P N below 32, i P I below 64, or o") ∷
    (codes "j", codes "the number of an event, at most how many there are with those that are left") ∷
    (codes "w", codes "nothing behind it") ∷
    (codes "a", codes "nothing behind it") ∷
    (codes "r", codes "a processor, and for one register its number, below 32") ∷
    (codes "c", codes "a processor") ∷
    (codes "t", codes "a processor") ∷
    (codes "m", codes "the address or the name of a word of RAM, then how many words, 1 to 1024") ∷
    (codes "x", codes "the address or the name of a word, then how many, 1 to 1024, then a processor or nothing") ∷
    (codes "l", codes "how many entries, 1 to 1024") ∷
    (codes "y", codes "how many events, 1 to 1024") ∷
    (codes "help", codes "nothing behind it") ∷
    (codes "quit", codes "nothing behind it") ∷
    []

abbrev pub note_text : List ℕ → List ℕ → List ℕ
note_text head text = with_line_end (codes "s161: note" ␣ head ++ codes " (" ++ text ++ codes ")")

-- the note on a word, where these are the commands
abbrev pub note_among : List (List ℕ × List ℕ) → List ℕ → List ℕ
note_among [] word = note_text (codes "command") (codes "there is none of this name; help lists them")
note_among (command ∷ others) word =
    if bytes_eq word command.0 then note_text command.0 command.1 else note_among others word

-- the note on the first word of a line
unfoldable pub note_on : List ℕ → List ℕ
note_on word = note_among commands word

-- an answer is the line of an error that is about what was typed
abbrev pub is_unfit : List ℕ → Bool
is_unfit answer =
    bytes_eq answer (error_line (name_of_error Unknown))
    || bytes_eq answer (error_line (name_of_error BadArgument))

-- the note on a line with this answer, if it has one
abbrev pub note_of : List ℕ → List ℕ → List ℕ
note_of line answer = if is_unfit answer then note_on (first_word line) else []

-- the notes on these lines, as what they count as, which have these answers
abbrev pub notes_of : List (List ℕ) → List (List ℕ) → List ℕ
notes_of [] answers = []
notes_of (line ∷ lines) [] = []
notes_of (line ∷ lines) (answer ∷ answers) = note_of (spaced line) answer ++ notes_of lines answers

-- an output got notes; where there are none, nothing was written
abbrev pub TakesNotes : List ℕ → Option (List ℕ) → Option (List ℕ) → Type 0
TakesNotes notes before after = Appends before after notes × (notes ≡ [] → after ≡ before)
