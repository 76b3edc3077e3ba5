use Rattle.std.specs.Prelude.{ℕ, Bool, true, false, ◌==◌, ◌||◌, if◌then◌else◌, List, [], ◌∷◌, ◌++◌, filter, flat_map}
use Rattle.std.specs.List.{onto_first}

-- The spaces and tabs of a line: some between two words count as one space, and those around all words
-- as none.

abbrev pub is_blank : ℕ → Bool
is_blank b = (b == 32) || (b == 9)

-- what stands before, between and behind the blanks of a line
abbrev pub parts_of : List ℕ → List (List ℕ)
parts_of [] = []
parts_of (b ∷ bs) = if is_blank b then [] ∷ parts_of bs else onto_first b (parts_of bs)

abbrev pub has_byte : List ℕ → Bool
has_byte [] = false
has_byte (b ∷ bs) = true

-- its words
abbrev pub words_of : List ℕ → List (List ℕ)
words_of line = filter has_byte (parts_of line)

-- words with one space between two
abbrev pub with_spaces : List (List ℕ) → List ℕ
with_spaces [] = []
with_spaces (word ∷ words) = word ++ flat_map (λ w. 32 ∷ w) words

-- what a line counts as
unfoldable pub spaced : List ℕ → List ℕ
spaced line = with_spaces (words_of line)
