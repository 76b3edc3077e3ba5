use Rattle.std.proofs.Common.{◌≡◌, ◌≢◌, ◌⊎◌, inl, inr, ◌∙◌, sym, refl, ap, subst, ℕ, zero, suc, ◌+◌, ◌%◌, ◌^◌, ◌<◌, ◌≤◌, Bool, true, false, List, [], ◌∷◌, length, get_or, Option, None, Some, arith}
use Rattle.std.specs.Prelude.{slice_set}
use Rattle.std.specs.List.{position, position_or_len, range_with_len}
use Rattle.std.proofs.lemmas.Option.{none-some}
use Rattle.std.proofs.lemmas.Bool.{cases_Bool, cases_eq, cases_lt}
use Rattle.std.proofs.lemmas.Bool.Decides.{nat_tests}
use Rattle.std.proofs.lemmas.List.{set_past, get_or-set_same, get_or-set_other}
use Rattle.std.proofs.lemmas.List.FromFn.{get_or-range_with_len, length-range_with_len, get_or-map-range_with_len}
use Rattle.m161_tlb.specs.declared.row.Row.{Row}
use Rattle.m161_tlb.specs.Row.{overlaps}
use Rattle.m161_tlb.specs.Rows.{AreApart, blank_row, find_overlap, is_overlap, start_row, start_rows}

-- Rows of which no two overlap.

-- the place of the first that passes, by the first element
if_passes : {X : Type 0} (p : X → Bool) (x : X) (xs : List X) → p x ≡ true → position_or_len p (x ∷ xs) ≡ 0
if_passes p x xs h = rw h refl

if_fails : {X : Type 0} (p : X → Bool) (x : X) (xs : List X) → p x ≡ false → position_or_len p (x ∷ xs) ≡ 1 + position_or_len p xs
if_fails p x xs h = rw h refl

-- the elements before it
none_before : {X : Type 0} (p : X → Bool) (xs : List X) (k : ℕ) (d : X) → k < position_or_len p xs → p (get_or xs k d) ≡ false
none_before p [] k d h = absurd (omega arith)
none_before p (x ∷ xs) zero d h = elim (cases_Bool (p x)) [
  | inl passes ↦ absurd (let none = if_passes p x xs passes in omega arith)
  | inr fails ↦ fails
]
none_before p (x ∷ xs) (suc k) d h = elim (cases_Bool (p x)) [
  | inl passes ↦ absurd (let none = if_passes p x xs passes in omega arith)
  | inr fails ↦ let more = if_fails p x xs fails in none_before p xs k d (omega arith)
]

-- where none passes, each element fails
none_passes : {X : Type 0} (p : X → Bool) (xs : List X) (k : ℕ) (d : X) → position p xs ≡ None → k < length xs → p (get_or xs k d) ≡ false
none_passes p xs k d none here = elim (cases_lt (position_or_len p xs) (length xs)) [
  | inl found ↦ absurd (let is : position p xs ≡ Some (position_or_len p xs) = search (arith, found) in none-some (position_or_len p xs) (sym none ∙ is))
  | inr after ↦ none_before p xs k d (omega arith)
]

-- the first that passes does
passes_there : {X : Type 0} (p : X → Bool) (xs : List X) (k : ℕ) (d : X) → position_or_len p xs ≡ k → k < length xs → p (get_or xs k d) ≡ true
passes_there p [] k d is here = absurd (omega (arith, here))
passes_there p (x ∷ xs) zero d is here = elim (cases_Bool (p x)) [
  | inl passes ↦ passes
  | inr fails ↦ absurd (let more = if_fails p x xs fails in omega arith)
]
passes_there p (x ∷ xs) (suc k) d is here = elim (cases_Bool (p x)) [
  | inl passes ↦ absurd (let none = if_passes p x xs passes in omega arith)
  | inr fails ↦ let more = if_fails p x xs fails in passes_there p xs k d (omega arith) (omega (arith, here))
]

-- and it is the one found
found_there : {X : Type 0} (p : X → Bool) (xs : List X) (k : ℕ) → position p xs ≡ Some k → (position_or_len p xs ≡ k) × (k < length xs)
found_there p xs k found = elim (cases_lt (position_or_len p xs) (length xs)) [
  | inl here ↦
      let is : position p xs ≡ Some (position_or_len p xs) = search (arith, here) in
      let same : position_or_len p xs ≡ k = let pair : ◌≡◌ {A = Option ℕ} (Some (position_or_len p xs)) (Some k) = sym is ∙ found in cc in
      (same, omega (arith, here, same))
  | inr past ↦ absurd (let is : position p xs ≡ None = search (arith, past) in none-some k (sym is ∙ found))
]

-- overlapping goes both ways
overlaps_both : (a b : Row) → overlaps a b ≡ false → overlaps b a ≡ false
overlaps_both a b h = grind (arith, nat_tests)

-- a row that overlaps none but row i
overlaps_none : (rows : List Row) (i k : ℕ) (row : Row) → find_overlap rows i row ≡ None → k < 64 → k ≢ i → overlaps row (get_or rows k blank_row) ≡ false
unfolding find_overlap
overlaps_none rows i k row none here other =
    let long : length (range_with_len 0 64) ≡ 64 = length-range_with_len 0 64 in
    let place : get_or (range_with_len 0 64) k 0 ≡ k = get_or-range_with_len 0 64 k 0 here ∙ omega arith in
    let fails : is_overlap rows i row k ≡ false = subst (λ n. is_overlap rows i row n ≡ false) place (none_passes (is_overlap rows i row) (range_with_len 0 64) k 0 none (omega (arith, long))) in
    grind (arith, nat_tests, fails)

-- the lowest of these is one of the 64 rows, and another than row i
pub overlap_places : (rows : List Row) (i j : ℕ) (row : Row) → find_overlap rows i row ≡ Some j → (j < 64) × (j ≢ i)
unfolding find_overlap
overlap_places rows i j row found =
    let long : length (range_with_len 0 64) ≡ 64 = length-range_with_len 0 64 in
    let there = found_there (is_overlap rows i row) (range_with_len 0 64) j found in
    let small : j < 64 = omega (arith, long, there.1) in
    let place : get_or (range_with_len 0 64) j 0 ≡ j = get_or-range_with_len 0 64 j 0 small ∙ omega arith in
    let passes : is_overlap rows i row j ≡ true = subst (λ n. is_overlap rows i row n ≡ true) place (passes_there (is_overlap rows i row) (range_with_len 0 64) j 0 there.0 there.1) in
    (small, λ same. grind (arith, nat_tests, passes, same))

-- a row read from a list with a row written, or with no place for it
read_set : (rows : List Row) (i k : ℕ) (row : Row) → (get_or (slice_set rows i row) k blank_row ≡ get_or rows k blank_row) ⊎ ((k ≡ i) × (get_or (slice_set rows i row) k blank_row ≡ row))
read_set rows i k row = elim (cases_eq k i) [
  | inl same ↦ elim (cases_lt i (length rows)) [
    | inl here ↦ inr (same, rw same (get_or-set_same rows i row blank_row here))
    | inr past ↦ inl (ap (λ xs. get_or xs k blank_row) (set_past rows i row past))
  ]
  | inr other ↦ inl (get_or-set_other rows i k row blank_row other)
]

-- such a row can be written there
apart_small : (rows : List Row) (i : ℕ) (row : Row) → AreApart rows → find_overlap rows i row ≡ None → AreApart (slice_set rows i row)
apart_small rows i row apart none a b a_in b_in other = elim (read_set rows i a row) [
  | inl a_is ↦ elim (read_set rows i b row) [
    | inl b_is ↦ (λ k. overlaps (a_is k) (b_is k)) ∙ apart a b a_in b_in other
    | inr b_new ↦
        let b_is = b_new.1 in
        (λ k. overlaps (a_is k) (b_is k)) ∙ overlaps_both row (get_or rows a blank_row) (overlaps_none rows i a row none a_in (λ e. other (e ∙ sym b_new.0)))
  ]
  | inr a_new ↦ elim (read_set rows i b row) [
    | inl b_is ↦
        let a_is = a_new.1 in
        (λ k. overlaps (a_is k) (b_is k)) ∙ overlaps_none rows i b row none b_in (λ e. other (a_new.0 ∙ sym e))
    | inr b_new ↦ absurd (other (a_new.0 ∙ sym b_new.0))
  ]
]

-- a write past the 64 rows changes none of them
apart_past : (rows : List Row) (i : ℕ) (row : Row) → AreApart rows → 64 ≤ i → AreApart (slice_set rows i row)
apart_past rows i row apart past a b a_in b_in other =
    let a_is = get_or-set_other rows i a row blank_row (λ e. omega arith) in
    let b_is = get_or-set_other rows i b row blank_row (λ e. omega arith) in
    (λ k. overlaps (a_is k) (b_is k)) ∙ apart a b a_in b_in other

-- a row that overlaps none but that of the number's six bits can be written
pub apart_set : (rows : List Row) (i : ℕ) (row : Row) → AreApart rows → find_overlap rows (i % 2 ^ 6) row ≡ None → AreApart (slice_set rows i row)
apart_set rows i row apart none = elim (cases_lt i 64) [
  | inl small ↦
      let same : i % 2 ^ 6 ≡ i = omega arith in
      apart_small rows i row apart (subst (λ n. find_overlap rows n row ≡ None) same none)
  | inr past ↦ apart_past rows i row apart past
]

-- rows at the start are of different pages
start_rows_apart : (i j : ℕ) → i ≢ j → overlaps (start_row i) (start_row j) ≡ false
start_rows_apart i j other = grind (arith, nat_tests)

-- the rows at a processor's start
pub start_apart : AreApart start_rows
start_apart i j i_in j_in other =
    let first : get_or start_rows i blank_row ≡ start_row i = get_or-map-range_with_len start_row 0 64 i i blank_row i_in (omega arith) in
    let second : get_or start_rows j blank_row ≡ start_row j = get_or-map-range_with_len start_row 0 64 j j blank_row j_in (omega arith) in
    (λ k. overlaps (first k) (second k)) ∙ start_rows_apart i j other
