use Rattle.std.specs.Prelude.{Bool, cond, not, ◌==◌, ◌||◌, ◌&&◌, slice_get, None, Some}
use Rattle.std.specs.List.{find, list_all}
use Rattle.std.specs.Bool.{Decides}
use Rattle.std.proofs.Common.{◌≡◌, ℕ, ◌/◌, List, [], ◌∷◌, true, false, zero, suc, refl, inl, inr, arith}
use Rattle.std.proofs.lemmas.Bool.Decides.{Decides-eqb, Decides-and, nat_tests}
use Rattle.std.proofs.lemmas.Bool.{or_cases}
use Rattle.m161_isa.specs.declared.table.Row.{Row}
use Rattle.m161_isa.specs.declared.table.Row.TheVariants as rows
use Rattle.m161_isa.specs.Table.{Field, table, all_rows, code_of, HasFields, Fits, FitsNone, has_fields, fits, row_that_fits}
use Rattle.m161_isa.specs.Bits.{bits_of}
use Rattle.m161_isa.specs.Laws.{OneRow, FindsTheRow}
use Rattle.std.proofs.lemmas.Bool.{and_parts}

-- A word fits one row at most: a test over the table's pairs of rows, which computes, and what
-- follows from it.

-- fitting, as a test
pub has_fields-Decides : (word : ℕ) (fs : List Field)
    → Decides (has_fields word fs) (HasFields word fs)
has_fields-Decides word [] = (λ _. tt, λ _. refl)
has_fields-Decides word (f ∷ fs) =
    Decides-and _ _ (Decides-eqb (bits_of word f.position f.width) f.value)
    (has_fields-Decides word fs)

pub fits-Decides : (word : ℕ) (r : Row) → Decides (fits word r) (Fits word r)
fits-Decides word r = has_fields-Decides word (table r).fields

-- two fields that no word has both: the same bits with two values, or rs against its highest bit
abbrev clash : Field → Field → Bool
clash f g =
    ((f.position == g.position) && (f.width == g.width) && not (f.value == g.value))
    || ((f.position == 21) && (f.width == 5) && (g.position == 25) && (g.width == 1)
    && not (f.value / 16 == g.value))

abbrev clashes : Field → List Field → Bool
clashes f [] = false
clashes f (g ∷ gs) = clash f g || clashes f gs

abbrev are_apart : List Field → List Field → Bool
are_apart [] gs = false
are_apart (f ∷ fs) gs = clashes f gs || are_apart fs gs

-- each row is apart from those below it
abbrev all_apart : List Row → Bool
all_apart [] = true
all_apart (r ∷ rs) = list_all (λ s. are_apart (table r).fields (table s).fields) rs && all_apart rs

all_apart-all_rows : all_apart all_rows ≡ true
all_apart-all_rows = refl

-- where what a search finds stands
found_at : {X : Type 0} (p : X → Bool) (xs : List X) (x : X) → find p xs ≡ Some x
    → (i : ℕ) × (slice_get xs i ≡ Some x)
found_at p [] x e = cc
found_at p (y ∷ ys) x e =
    elim (p y) as
    (λ b. cond b (Some y) (find p ys) ≡ Some x → (i : ℕ) × (slice_get (y ∷ ys) i ≡ Some x))
    [ true ↦ λ f. (0, f) | false ↦ λ f. let (i, at) = found_at p ys x f in (suc i, at) ] e

-- where a row stands in the table: its code is found there. The last equation is checked at each of
-- the 68 other rows
code_found : (r : Row) → row_that_fits (code_of r) ≡ Some r
code_found rows.Sll = refl
code_found _ = refl

listed : (r : Row) → (i : ℕ) × (slice_get all_rows i ≡ Some r)
listed r = found_at (fits (code_of r)) all_rows r (code_found r)

-- no word has both of two fields that clash
same_place : (word p w v q x u : ℕ) → ((p == q) && (w == x) && not (v == u)) ≡ true
    → bits_of word p w ≡ v → bits_of word q x ≡ u → ⊥
same_place word p w v q x u c first second =
    let (here, other) = and_parts _ _ c in
    let (place, width) = and_parts _ _ here in
    let e : p ≡ q = (Decides-eqb p q).0 place in
    let d : w ≡ x = (Decides-eqb w x).0 width in
    let same : v ≡ u = cc in
    let t : (v == u) ≡ true = (Decides-eqb v u).1 same in
    cc

not_both : (word : ℕ) (f g : Field) → clash f g ≡ true → bits_of word f.position f.width ≡ f.value
    → bits_of word g.position g.width ≡ g.value → ⊥
not_both word f g c x y = grind (arith, nat_tests)

not_all : (word : ℕ) (f : Field) (gs : List Field) → clashes f gs ≡ true
    → bits_of word f.position f.width ≡ f.value → HasFields word gs → ⊥
not_all word f [] c x y = cc
not_all word f (g ∷ gs) c x (y, ys) =
    elim (or_cases (clash f g) (clashes f gs) c)
    [ inl d ↦ not_both word f g d x y | inr d ↦ not_all word f gs d x ys ]

not_apart : (word : ℕ) (fs gs : List Field) → are_apart fs gs ≡ true → HasFields word fs
    → HasFields word gs → ⊥
not_apart word [] gs c x y = cc
not_apart word (f ∷ fs) gs c (x, xs) y =
    elim (or_cases (clashes f gs) (are_apart fs gs) c)
    [ inl d ↦ not_all word f gs d x y | inr d ↦ not_apart word fs gs d xs y ]

-- a test that each of a list passes, at one of them
passes : {X : Type 0} (p : X → Bool) (xs : List X) (i : ℕ) (x : X) → list_all p xs ≡ true
    → slice_get xs i ≡ Some x → p x ≡ true
passes p [] i x all at = cc
passes p (y ∷ ys) zero x all at =
    let e : y ≡ x = cc in
    rw (← e) (and_parts (p y) (list_all p ys) all).0
passes p (y ∷ ys) (suc i) x all at = passes p ys i x (and_parts (p y) (list_all p ys) all).1 at

-- a choice whose test cannot pass
by_test : {X : Type 0} (b : Bool) (x y z : X) → (b ≡ true → ⊥) → y ≡ z → cond b x y ≡ z
by_test true x y z never e = absurd (never refl)
by_test false x y z never e = e

-- the first row of an apart list that a word fits is the one that it fits
found_in : (word : ℕ) (r : Row) (rs : List Row) (i : ℕ) → all_apart rs ≡ true
    → slice_get rs i ≡ Some r → Fits word r → find (fits word) rs ≡ Some r
found_in word r [] i apart at h = cc
found_in word r (s ∷ rs) zero apart at h =
    let e : s ≡ r = cc in
    let t : fits word r ≡ true = (fits-Decides word r).1 h in
    rw (e, t) refl
found_in word r (s ∷ rs) (suc i) apart at h =
    let (here, below) = and_parts _ _ apart in
    let d = passes (λ q. are_apart (table s).fields (table q).fields) rs i r here at in
    let rest = found_in word r rs i below at h in
    by_test (fits word s) (Some s) (find (fits word) rs) (Some r)
    (λ t. not_apart word (table s).fields (table r).fields d ((fits-Decides word s).0 t) h) rest

-- a word that fits a row finds it
pub row_that_fits-is : (word : ℕ) (r : Row) → Fits word r → row_that_fits word ≡ Some r
row_that_fits-is word r h = found_in word r all_rows (listed r).0 all_apart-all_rows (listed r).1 h

-- what a search finds passes its test
find_passes : {X : Type 0} (p : X → Bool) (xs : List X) (x : X) → find p xs ≡ Some x → p x ≡ true
find_passes p [] x e = cc
find_passes p (y ∷ ys) x e =
    elim (p y) as (λ b. p y ≡ b → cond b (Some y) (find p ys) ≡ Some x → p x ≡ true)
    [ true ↦ λ t f. let d : y ≡ x = cc in rw (← d) t | false ↦ λ _ f. find_passes p ys x f ] refl e

pub row_that_fits-fits : (word : ℕ) (r : Row) → row_that_fits word ≡ Some r → Fits word r
row_that_fits-fits word r e = (fits-Decides word r).0 (find_passes (fits word) all_rows r e)

pub row_that_fits-None : (word : ℕ) → FitsNone word → row_that_fits word ≡ None
row_that_fits-None word none =
    elim (row_that_fits word) as
    (λ o. row_that_fits word ≡ o → o ≡ None)
    [ None ↦ λ _. refl | Some r ↦ λ e. absurd (none r (row_that_fits-fits word r e)) ] refl

pub one_row : OneRow
one_row word r s h k = let a = row_that_fits-is word r h in let b = row_that_fits-is word s k in cc

pub finds_the_row : FindsTheRow
finds_the_row word = (
  λ r. (row_that_fits-fits word r, row_that_fits-is word r),
  λ none r h. let a = row_that_fits-is word r h in cc,
)
