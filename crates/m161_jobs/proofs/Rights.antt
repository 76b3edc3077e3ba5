use Rattle.std.proofs.Common.{◌≡◌, ◌∙◌, refl, ap, sym, subst, ℕ, zero, suc, ◌+◌, ◌-◌, ◌<◌, ◌≤◌, Bool, true, false, List, [], ◌∷◌, ◌++◌, length, arith}
use Rattle.std.proofs.lemmas.Bool.Decides.{nat_tests}
use Rattle.std.specs.Prelude.{if◌then◌else◌, ◌==◌}
use Rattle.std.specs.List.{range_with_len}
use Rattle.m161_jobs.specs.Trials.{AreRight}

-- Right trials, and how many of them are cut.

cut_more : (is_cut : Bool) (a rest b : ℕ) → a ≡ (if is_cut then rest + 1 else rest) → a + b ≡ (if is_cut then rest + b + 1 else rest + b)
cut_more true a rest b h = omega (arith, h)
cut_more false a rest b h = omega (arith, h)

-- the trials of two lists
pub right_more : {X : Type 0} (right : X → Bool → Type 0) (xs ys : List X) (a b : ℕ) → AreRight right xs a → AreRight right ys b →
    AreRight right (xs ++ ys) (a + b)
right_more right [] ys a b h k =
    let none = h in
    let same : b ≡ a + b = omega (arith, none) in subst (AreRight right ys) same k
right_more right (x ∷ xs) ys a b h k =
    (h.0, h.1 + b, h.2, cut_more h.0 a h.1 b h.3, right_more right xs ys h.1 b h.4 k)

-- and each list by itself
cut_less : (is_cut : Bool) (a rest b c : ℕ) → a ≡ (if is_cut then rest + 1 else rest) → rest ≡ b + c → a ≡ (if is_cut then b + 1 else b) + c
cut_less true a rest b c h k = omega (arith, h, k)
cut_less false a rest b c h k = omega (arith, h, k)

pub right_split : {X : Type 0} (right : X → Bool → Type 0) (xs ys : List X) (cut : ℕ) → AreRight right (xs ++ ys) cut →
    (a : ℕ) × (b : ℕ) × (cut ≡ a + b) × AreRight right xs a × AreRight right ys b
right_split right [] ys cut h = (0, cut, omega arith, refl, h)
right_split right (x ∷ xs) ys cut h =
    let inner = right_split right xs ys h.1 h.4 in
    ((if h.0 then inner.0 + 1 else inner.0), inner.1, cut_less h.0 cut h.1 inner.0 inner.1 h.3 inner.2, (h.0, inner.0, h.2, refl, inner.3), inner.4)

one_cut : (is_cut : Bool) → (if is_cut then 1 else 0) ≡ (if is_cut then 0 + 1 else 0)
one_cut true = refl
one_cut false = refl

pub right_one : {X : Type 0} (right : X → Bool → Type 0) (x : X) (is_cut : Bool) → right x is_cut →
    AreRight right (x ∷ []) (if is_cut then 1 else 0)
right_one right x is_cut h = (is_cut, 0, h, one_cut is_cut, refl)

few_more : (is_cut : Bool) (a rest n : ℕ) → a ≡ (if is_cut then rest + 1 else rest) → rest ≤ n → a ≤ n + 1
few_more true a rest n h few = omega (arith, h, few)
few_more false a rest n h few = omega (arith, h, few)

-- no more are cut than there are
pub right_few : {X : Type 0} (right : X → Bool → Type 0) (xs : List X) (a : ℕ) → AreRight right xs a → a ≤ length xs
right_few right [] a h = let none = h in omega (arith, none)
right_few right (x ∷ xs) a h = let more = few_more h.0 a h.1 (length xs) h.3 (right_few right xs h.1 h.4) in omega (arith, more)

-- numbers in a row
pub range_more : (from a b : ℕ) → range_with_len from (a + b) ≡ range_with_len from a ++ range_with_len (from + a) b
range_more from zero b =
    let none : zero + b ≡ b = omega arith in
    let here : from ≡ from + zero = omega arith in
    ap (range_with_len from) none ∙ ap (λ k. range_with_len k b) here
range_more from (suc a) b =
    let next : suc a + b ≡ suc (a + b) = omega arith in
    let on : from + 1 + a ≡ from + suc a = omega arith in
    ap (range_with_len from) next
    ∙ ap (λ xs. from ∷ xs) (range_more (from + 1) a b)
    ∙ ap (λ k. from ∷ range_with_len (from + 1) a ++ range_with_len k b) on

pub right_range : (right : ℕ → Bool → Type 0) (from to end cut more : ℕ) → from ≤ to → to ≤ end →
    AreRight right (range_with_len from (to - from)) cut → AreRight right (range_with_len to (end - to)) more →
    AreRight right (range_with_len from (end - from)) (cut + more)
right_range right from to end cut more h k first second =
    let size : (to - from) + (end - to) ≡ end - from = omega (arith, h, k) in
    let next : from + (to - from) ≡ to = omega (arith, h) in
    subst (λ xs. AreRight right xs (cut + more))
    (sym (ap (range_with_len from) (sym size) ∙ range_more from (to - from) (end - to) ∙ ap (λ n. range_with_len from (to - from) ++ range_with_len n (end - to)) next))
    (right_more right (range_with_len from (to - from)) (range_with_len to (end - to)) cut more first second)

-- each of them
eq_of : (a b : ℕ) → (a == b) ≡ true → a ≡ b
eq_of a b h = grind (arith, nat_tests)

next_of : (a b : ℕ) → (a == b) ≡ false → a ≤ b → a + 1 ≤ b
next_of a b h k = grind (arith, nat_tests)

at_one : (right : ℕ → Bool → Type 0) (from len n : ℕ) (same : Bool) → (from == n) ≡ same → from ≤ n → (is_cut : Bool) → right from is_cut →
    (from + 1 ≤ n → (is_cut : Bool) × right n is_cut) → (is_cut : Bool) × right n is_cut
at_one right from len n true same least is_cut first rest = (is_cut, subst (λ k. right k is_cut) (eq_of from n same) first)
at_one right from len n false same least is_cut first rest = rest (next_of from n same least)

pub right_at : (right : ℕ → Bool → Type 0) (from len cut n : ℕ) → AreRight right (range_with_len from len) cut → from ≤ n → n < from + len →
    (is_cut : Bool) × right n is_cut
right_at right from zero cut n h least within = absurd (let bad : ⊥ = omega (arith, least, within) in bad)
right_at right from (suc len) cut n h least within =
    at_one right from len n (from == n) refl least h.0 h.2
    (λ more. right_at right (from + 1) len h.1 n h.4 more (omega (arith, within)))
