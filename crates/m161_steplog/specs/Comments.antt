use Rattle.std.specs.Prelude.{◌≡◌, ℕ, zero, suc, ◌+◌, ◌==◌, if◌then◌else◌, Bool, false, List, [], ◌∷◌}
use Rattle.m161_machine.specs.declared.event.Entry.{Entry}
use Rattle.m161_text.specs.Lines.{lines_of, FirstBad}
use Rattle.m161_steplog.specs.declared.mode.Mode.{Mode}
use Rattle.m161_steplog.specs.Log.{IsLog, AreLogLines}

-- A log's text may begin with comments: lines that begin with `#`.

abbrev pub is_comment : List ℕ → Bool
is_comment [] = false
is_comment (b ∷ bs) = b == 35

-- how many of these lines are comments, up to the first that isn't
abbrev pub comments_of : List (List ℕ) → ℕ
comments_of [] = 0
comments_of (line ∷ lines) = if is_comment line then suc (comments_of lines) else 0

-- how many comments a text begins with
unfoldable pub comment_count : List ℕ → ℕ
comment_count text = comments_of (lines_of text)

-- a text without its first line
abbrev pub after_line : List ℕ → List ℕ
after_line [] = []
after_line (b ∷ bs) = if b == 10 then bs else after_line bs

-- a text without its first n lines
abbrev pub after_lines : ℕ → List ℕ → List ℕ
after_lines zero text = text
after_lines (suc n) text = after_lines n (after_line text)

-- a text without the comments that it begins with
unfoldable pub behind_comments : List ℕ → List ℕ
behind_comments text = after_lines (comment_count text) text

-- comments, and behind them the text of a log of this mode with these entries
abbrev pub IsLogFile : List ℕ → Mode → List Entry → Type 0
IsLogFile text mode es = IsLog (behind_comments text) mode es

-- line n of the whole text, from 1, is the first bad one
abbrev pub IsFirstBadOfLog : List ℕ → ℕ → Type 0
IsFirstBadOfLog text n = (k : ℕ) × (n ≡ comment_count text + k)
    × FirstBad AreLogLines (behind_comments text) k
