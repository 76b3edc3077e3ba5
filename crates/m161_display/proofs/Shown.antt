use Rattle.std.proofs.Common.{◌≡◌, ◌∙◌, ◌+◌, ◌<◌, ℕ, List, [], ◌∷◌, ◌++◌, length, take, get_or, ap, flat_map, map, sym, arith}
use Rattle.std.specs.List.{range_with_len}
use Rattle.std.proofs.lemmas.List.{flat_map_more, map-append, map-id, take_more}
use Rattle.std.proofs.lemmas.List.FromFn.{map-range_with_len_more}
use Rattle.m161_display.specs.Shows.{numbered_lines}
use Rattle.m161_text.specs.Lines.{with_line_end, text_of}

-- Texts of lines.

-- one more line
pub text_of_more : (lines : List (List ℕ)) (line : List ℕ) → text_of (lines ++ line ∷ []) ≡ text_of lines ++ with_line_end line
text_of_more lines line = sym (flat_map_more with_line_end [] lines line)

-- one more of counted lines
pub counted_more : (line : ℕ → List ℕ) (n : ℕ) → text_of (numbered_lines (n + 1) line) ≡ text_of (numbered_lines n line) ++ with_line_end (line n)
counted_more line n = ap text_of (map-range_with_len_more line 0 n n (omega arith)) ∙ text_of_more (numbered_lines n line) (line n)

-- the same, after a first line
pub counted_more_after : (first : List ℕ) (line : ℕ → List ℕ) (n : ℕ)
    → text_of (first ∷ numbered_lines (n + 1) line) ≡ text_of (first ∷ numbered_lines n line) ++ with_line_end (line n)
counted_more_after first line n =
    ap (λ lines. text_of (first ∷ lines)) (map-range_with_len_more line 0 n n (omega arith)) ∙ text_of_more (first ∷ numbered_lines n line) (line n)

-- one more of the lines of a list's elements
pub mapped_more : {X : Type 0} (line : X → List ℕ) (xs : List X) (i : ℕ) (d : X) → i < length xs
    → text_of (map line (take (i + 1) xs)) ≡ text_of (map line (take i xs)) ++ with_line_end (line (get_or xs i d))
mapped_more line xs i d lt =
    ap (λ l. text_of (map line l)) (take_more xs i d lt) ∙ ap text_of (map-append line (take i xs) (get_or xs i d ∷ []))
    ∙ text_of_more (map line (take i xs)) (line (get_or xs i d))

pub range_more : (n : ℕ) → range_with_len 0 (n + 1) ≡ range_with_len 0 n ++ n ∷ []
range_more n = sym (map-id (range_with_len 0 (n + 1))) ∙ map-range_with_len_more (λ x. x) 0 n n (omega arith) ∙ ap (λ l. l ++ n ∷ []) (map-id (range_with_len 0 n))

-- one more of counted texts, each of which may be empty
pub each_more : (text : ℕ → List ℕ) (n : ℕ) → flat_map text (range_with_len 0 (n + 1)) ≡ flat_map text (range_with_len 0 n) ++ text n
each_more text n = ap (flat_map text) (range_more n) ∙ sym (flat_map_more text [] (range_with_len 0 n) n)
