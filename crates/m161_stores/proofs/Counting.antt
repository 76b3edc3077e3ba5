use Rattle.std.proofs.Common.{◌≡◌, ◌≢◌, ◌∙◌, refl, ap, sym, ℕ, zero, suc, ◌<◌, ◌≤◌, Bool, true, false, List, length, arith, ◌⊎◌, inl, inr}
use Rattle.std.proofs.lemmas.Bool.{cases_order}
use Rattle.std.proofs.lemmas.Bool.Decides.{eqb_tells}
use Rattle.std.specs.Prelude.{◌==◌, if◌then◌else◌}
use Rattle.m161_explore.specs.Lists.{Leads}
use Rattle.m161_explore.specs.Rules.{Rules}
use Rattle.m161_explore.specs.Views.{AreAll, AreDifferent, view_at}

-- Different views are no more than those among which they all are.

same_test : (n : ℕ) (h : ((n == n) ≡ true) × (n ≡ n) ⊎ (((n == n) ≡ false) × (n ≢ n))) → (n == n) ≡ true
same_test n (inl h) = h.0
same_test n (inr h) = absurd (h.1 refl)

pub same : (n : ℕ) → (n == n) ≡ true
same n = same_test n (eqb_tells n n)

equal_test : (a b : ℕ) → (((a == b) ≡ true) × (a ≡ b)) ⊎ (((a == b) ≡ false) × (a ≢ b)) → (a == b) ≡ true → a ≡ b
equal_test a b (inl h) e = h.1
equal_test a b (inr h) e = absurd (let bad : false ≡ true = sym h.0 ∙ e in cc)

pub equal : (a b : ℕ) → (a == b) ≡ true → a ≡ b
equal a b e = equal_test a b (eqb_tells a b) e

-- the values of the first n numbers are less than m
abbrev AreLess : (ℕ → ℕ) → ℕ → ℕ → Type 0
AreLess f n m = (j : ℕ) → j < n → f j < m

abbrev AreApart : (ℕ → ℕ) → ℕ → Type 0
AreApart f n = (j k : ℕ) → j < k → k < n → f j ≡ f k → ⊥

-- the value m is taken by that of n
abbrev without : (ℕ → ℕ) → ℕ → ℕ → ℕ → ℕ
without f n m j = if f j == m then f n else f j

abbrev Replaced : ℕ → ℕ → ℕ → ℕ → Type 0
Replaced x m y r = ((x ≡ m) × (r ≡ y)) ⊎ ((x ≡ m → ⊥) × (r ≡ x))

replaced_by : (x m y : ℕ) (t : Bool) → (x == m) ≡ t → Replaced x m y (if t then y else x)
replaced_by x m y true e = inl (equal x m e, refl)
replaced_by x m y false e = inr (λ is. absurd (let bad : true ≡ false = sym (same m) ∙ (λ i. sym is i == m) ∙ e in cc), refl)

replaced : (x m y : ℕ) → Replaced x m y (if x == m then y else x)
replaced x m y = replaced_by x m y (x == m) refl

less_without : (f : ℕ → ℕ) (n m : ℕ) → AreLess f (suc n) (suc m) → AreApart f (suc n) → AreLess (without f n m) n m
less_without f n m less apart j below =
    let a = less j (omega (arith, below)) in
    let b = less n (omega arith) in
    let no : f j ≡ f n → ⊥ = apart j n below (omega arith) in
    elim (replaced (f j) m (f n)) [
      | inl w ↦ elim (replaced (f n) m (f j)) [
        | inl v ↦ absurd (no (w.0 ∙ sym v.0))
        | inr v ↦ let differs = v.0 in omega (arith, b, w.1, differs)
      ]
      | inr w ↦ let differs = w.0 in omega (arith, a, w.1, differs)
    ]

apart_without : (f : ℕ → ℕ) (n m : ℕ) → AreApart f (suc n) → AreApart (without f n m) n
apart_without f n m apart j k before below e =
    elim (replaced (f j) m (f n)) [
      | inl v ↦ elim (replaced (f k) m (f n)) [
        | inl w ↦ apart j k before (omega (arith, below)) (v.0 ∙ sym w.0)
        | inr w ↦ apart k n below (omega arith) (sym w.1 ∙ sym e ∙ v.1)
      ]
      | inr v ↦ elim (replaced (f k) m (f n)) [
        | inl w ↦ apart j n (omega (arith, before, below)) (omega arith) (sym v.1 ∙ e ∙ w.1)
        | inr w ↦ apart j k before (omega (arith, below)) (sym v.1 ∙ e ∙ w.1)
      ]
    ]

no_more : (n m : ℕ) (f : ℕ → ℕ) → AreLess f n m → AreApart f n → n ≤ m
no_more zero m f less apart = omega arith
no_more (suc n) zero f less apart = absurd (let bad = less n (omega arith) in omega (arith, bad))
no_more (suc n) (suc m) f less apart =
    let rest = no_more n m (without f n m) (less_without f n m less apart) (apart_without f n m apart) in omega (arith, rest)

-- the place of one of the views among all, where it is one of so many
abbrev IsPlaced : List (List ℕ) → List (List ℕ) → ℕ → ℕ → Type 0
IsPlaced views all j place = j < length views → (place < length all) × (view_at views j ≡ view_at all place)

pub fit : {S V W R : Type 0} (r : Rules S V R) (o : Rules S W R) (IsSo IsAlso : List ℕ → Type 0) (views all : List (List ℕ)) →
    ((es : List ℕ) (t : S) → Leads r r.start es t → Leads o o.start es t) → ((t : S) → r.view t ≡ o.view t) →
    ((es : List ℕ) → IsSo es → IsAlso es) → AreDifferent r IsSo views → AreAll o IsAlso all → length views ≤ length all
fit {S} r o IsSo IsAlso views all leads shown so different every =
    let placed : (j : ℕ) → (place : ℕ) × IsPlaced views all j place = λ j. elim (cases_order j (length views)) [
      | inl e ↦ (0, λ below. absurd (omega (arith, below, e)))
      | inr k ↦ elim k [
        | inl below ↦
            let one = different.each j below in
            let there = every one.0 one.1 (leads one.0 one.1 one.2) (so one.0 one.3) in
            (there.0, λ again. (there.1, sym one.4 ∙ shown one.1 ∙ there.2))
        | inr above ↦ (0, λ below. absurd (omega (arith, below, above)))
      ]
    ] in
    no_more (length views) (length all) (λ j. (placed j).0) (λ j below. ((placed j).1 below).0)
    (λ j k before below e. different.different j k before below
    (((placed j).1 (omega (arith, before, below))).1 ∙ ap (view_at all) e ∙ sym ((placed k).1 below).1))
