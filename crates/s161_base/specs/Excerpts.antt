use Rattle.std.specs.Prelude.{◌≡◌, ◌⊎◌, ℕ, ◌-◌, ◌≤◌, Bool, true, not, ◌==◌, ◌||◌, List, [], ◌∷◌, ◌++◌, length, take, drop, slice_get, unwrap_or, encode_utf8_all, IsCharBoundary}
use Rattle.std.specs.List.{list_all}
use Rattle.m161_text.specs.Lines.{lines_of}
use Rattle.s161_base.specs.declared.excerpt.Excerpt.{Excerpt}

-- The text at the fault of a source.

-- its characters
abbrev pub characters_of : Excerpt → List ℕ
characters_of word = take word.count word.characters

-- it ends before a blank, a comma, and the mark of a comment
abbrev pub is_word_end : ℕ → Bool
is_word_end c = c == 32 || c == 9 || c == 44 || c == 35

-- nothing is left of a line, or what is left begins so
abbrev pub ends_word : List ℕ → Bool
ends_word [] = true
ends_word (b ∷ bs) = is_word_end b

-- of what is left of a line it is the characters before its end, of many the first 40
pub record IsWord (rest characters : List ℕ) : Type 0 where
  pub behind : List ℕ
  pub parts : rest ≡ encode_utf8_all characters ++ behind
  pub inside : list_all (λ c. not (is_word_end c)) characters ≡ true
  pub few : length characters ≤ 40
  pub whole : (length characters ≡ 40) ⊎ (ends_word behind ≡ true)

-- a line of a source, from 1; empty where there is none
abbrev pub line_at : List ℕ → ℕ → List ℕ
line_at source line = unwrap_or (slice_get (lines_of source) (line - 1)) []

-- so it is at this line and column, both from 1; nothing where the column isn't between characters of the
-- line, which no fault's is
abbrev pub IsWordAt : List ℕ → ℕ → ℕ → List ℕ → Type 0
IsWordAt source line column characters =
    (IsCharBoundary (line_at source line) (column - 1)
    → IsWord (drop (column - 1) (line_at source line)) characters)
    × ((IsCharBoundary (line_at source line) (column - 1) → ⊥) → characters ≡ [])
