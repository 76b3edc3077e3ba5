use Rattle.std.specs.Prelude.{ℕ, ◌≤◌, ◌<◌, List, [], ◌∷◌, ◌++◌, flat_map, if◌then◌else◌, ◌==◌, take}
use Rattle.std.specs.List.{onto_first}

-- The lines of a text, and the first of them that is wrong.

-- the lines of a text: each ends with a line feed; the last one may lack it
abbrev pub lines_of : List ℕ → List (List ℕ)
lines_of [] = []
lines_of (b ∷ bs) = if b == 10 then [] ∷ lines_of bs else onto_first b (lines_of bs)

-- a line with its end
abbrev pub with_line_end : List ℕ → List ℕ
with_line_end line = line ++ 10 ∷ []

-- the text of lines
abbrev pub text_of : List (List ℕ) → List ℕ
text_of lines = flat_map with_line_end lines

-- line n, from 1, is the first bad one: the first n lines don't fit, and the first k do, for each k
-- from 1 to n - 1
pub record FirstBad (Fits : List (List ℕ) → Type 0) (text : List ℕ) (n : ℕ) : Type 0 where
  pub one : 1 ≤ n
  pub bad : Fits (take n (lines_of text)) → ⊥
  pub before : (k : ℕ) → 1 ≤ k → k < n → Fits (take k (lines_of text))
