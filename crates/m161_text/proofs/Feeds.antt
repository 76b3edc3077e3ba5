-- A text and its lines.
use Rattle.std.proofs.Common.{◌≡◌, ◌≢◌, ◌⊎◌, ℕ, ◌<◌, List, [], ◌∷◌, ◌++◌, Bool, true, false, cond, eqb, eqb-true, ne_eqb, length, drop, refl, sym, ap, ◌∙◌, arith, inl, inr, append_assoc, length-append}
use Rattle.std.specs.List.{onto_first, AllByRecursion}
use Rattle.m161_text.specs.Parts.{Lacks}
use Rattle.m161_text.specs.Lines.{lines_of, text_of}
use Rattle.m161_text.proofs.Parts.{rest_lacks}

line_step : (t : Bool) (b : ℕ) (bs : List ℕ) → eqb b 10 ≡ t → lines_of (b ∷ bs) ≡ cond t ([] ∷ lines_of bs) (onto_first b (lines_of bs))
line_step t b bs e = ap (λ (s : Bool). cond s ([] ∷ lines_of bs) (onto_first b (lines_of bs))) e

line_on : (b : ℕ) (bs : List ℕ) → b ≢ 10 → lines_of (b ∷ bs) ≡ onto_first b (lines_of bs)
line_on b bs other = line_step false b bs (ne_eqb b 10 other)

-- the lines of a line with its end and a further text
pub lines_cut : (a b : List ℕ) → Lacks 10 a → lines_of (a ++ 10 ∷ b) ≡ a ∷ lines_of b
lines_cut [] b lacks = refl
lines_cut (x ∷ a) b lacks = line_on x (a ++ 10 ∷ b) (lacks 0 (omega arith)) ∙ ap (onto_first x) (lines_cut a b (rest_lacks 10 x a lacks))

-- the line of a text without an end
pub lines_last : (bs : List ℕ) → 0 < length bs → Lacks 10 bs → lines_of bs ≡ bs ∷ []
lines_last [] some lacks = absurd (omega arith)
lines_last (x ∷ []) some lacks = line_on x [] (lacks 0 (omega arith))
lines_last (x ∷ y ∷ bs) some lacks = line_on x (y ∷ bs) (lacks 0 (omega arith)) ∙ ap (onto_first x) (lines_last (y ∷ bs) (omega arith) (rest_lacks 10 x (y ∷ bs) lacks))

pub lines_of-ended : (lines : List (List ℕ)) → AllByRecursion (Lacks 10) lines → lines_of (text_of lines) ≡ lines
lines_of-ended [] each = refl
lines_of-ended (line ∷ lines) each = ap lines_of (append_assoc line (10 ∷ []) (text_of lines)) ∙ lines_cut line (text_of lines) each.0 ∙ ap (λ ls. line ∷ ls) (lines_of-ended lines each.1)

by_shape : (b : ℕ) (bs : List ℕ) (lines : List (List ℕ)) → (bs ≡ text_of lines) ⊎ (bs ++ 10 ∷ [] ≡ text_of lines) → (b ∷ bs ≡ text_of (onto_first b lines)) ⊎ (b ∷ bs ++ 10 ∷ [] ≡ text_of (onto_first b lines))
by_shape b bs [] (inl e) = inr (ap (λ xs. b ∷ xs ++ 10 ∷ []) e)
by_shape b bs [] (inr e) = absurd (omega (arith, ap length e, length-append bs (10 ∷ [])))
by_shape b bs (line ∷ lines) (inl e) = inl (ap (λ xs. b ∷ xs) e)
by_shape b bs (line ∷ lines) (inr e) = inr (ap (λ xs. b ∷ xs) e)

after_feed : (bs : List ℕ) (lines : List (List ℕ)) → (bs ≡ text_of lines) ⊎ (bs ++ 10 ∷ [] ≡ text_of lines) → (10 ∷ bs ≡ text_of ([] ∷ lines)) ⊎ (10 ∷ bs ++ 10 ∷ [] ≡ text_of ([] ∷ lines))
after_feed bs lines (inl e) = inl (ap (λ xs. 10 ∷ xs) e)
after_feed bs lines (inr e) = inr (ap (λ xs. 10 ∷ xs) e)

-- a text is its lines with their ends, up to the last end
pub ended-lines_of : (bs : List ℕ) → (bs ≡ text_of (lines_of bs)) ⊎ (bs ++ 10 ∷ [] ≡ text_of (lines_of bs))
ended-lines_of [] = inl refl
ended-lines_of (b ∷ bs) = by (eqb b 10) refl (ended-lines_of bs)
  where
    by : (t : Bool) → eqb b 10 ≡ t → (bs ≡ text_of (lines_of bs)) ⊎ (bs ++ 10 ∷ [] ≡ text_of (lines_of bs)) → (b ∷ bs ≡ text_of (lines_of (b ∷ bs))) ⊎ (b ∷ bs ++ 10 ∷ [] ≡ text_of (lines_of (b ∷ bs)))
    by true e before = rw (line_step true b bs e, eqb-true b 10 e) (after_feed bs (lines_of bs) before)
    by false e before = rw (line_step false b bs e) (by_shape b bs (lines_of bs) before)

abbrev pub IsSome : List ℕ → Type 0
IsSome line = 0 < length line

drop-onto_first : (b : ℕ) (lines : List (List ℕ)) → drop 1 (onto_first b lines) ≡ drop 1 lines
drop-onto_first b [] = refl
drop-onto_first b (line ∷ lines) = refl

all_but_first : (lines : List (List ℕ)) → AllByRecursion IsSome lines → AllByRecursion IsSome (drop 1 lines)
all_but_first [] each = tt
all_but_first (line ∷ lines) each = each.1

-- where no line but the first is empty, a last end makes no difference
pub unended : (bs : List ℕ) → 0 < length bs → AllByRecursion IsSome (drop 1 (lines_of (bs ++ 10 ∷ []))) → lines_of (bs ++ 10 ∷ []) ≡ lines_of bs
unended [] some each = absurd (omega arith)
unended (b ∷ []) some each = by (eqb b 10) refl
  where
    by : (t : Bool) → eqb b 10 ≡ t → lines_of (b ∷ 10 ∷ []) ≡ lines_of (b ∷ [])
    by true e = let wrong = rw (line_step true b (10 ∷ []) e) at each in absurd (omega (arith, wrong.0))
    by false e = line_step false b (10 ∷ []) e ∙ sym (line_step false b [] e)
unended (b ∷ c ∷ bs) some each = by (eqb b 10) refl (unended (c ∷ bs) (omega arith))
  where
    by : (t : Bool) → eqb b 10 ≡ t → (AllByRecursion IsSome (drop 1 (lines_of (c ∷ bs ++ 10 ∷ []))) → lines_of (c ∷ bs ++ 10 ∷ []) ≡ lines_of (c ∷ bs)) → lines_of (b ∷ c ∷ bs ++ 10 ∷ []) ≡ lines_of (b ∷ c ∷ bs)
    by true e rest =
        let here = rw (line_step true b (c ∷ bs ++ 10 ∷ []) e) at each in
        line_step true b (c ∷ bs ++ 10 ∷ []) e ∙ ap (λ ls. [] ∷ ls) (rest (all_but_first _ here)) ∙ sym (line_step true b (c ∷ bs) e)
    by false e rest =
        let here = rw (line_step false b (c ∷ bs ++ 10 ∷ []) e, drop-onto_first b (lines_of (c ∷ bs ++ 10 ∷ []))) at each in
        line_step false b (c ∷ bs ++ 10 ∷ []) e ∙ ap (onto_first b) (rest here) ∙ sym (line_step false b (c ∷ bs) e)
