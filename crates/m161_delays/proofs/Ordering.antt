use Rattle.std.proofs.Common.{◌≡◌, ◌∙◌, refl, ap, ℕ, ◌+◌, ◌<◌, ◌≤◌, Bool, true, false, cond, List, [], ◌∷◌, ◌++◌, arith, inl, inr}
use Rattle.std.proofs.lemmas.Bool.Decides.{nat_tests}
use Rattle.std.proofs.lemmas.List.Sums.{sum_by-cons}
use Rattle.std.specs.Prelude.{◌==◌}
use Rattle.m161_delays.specs.Lists.{IsAscendingFrom, IsLess, times}
use Rattle.m161_delays.specs.helpers.Last.{last_from}

-- Ascending lists, and their order.

pub ascending_less : (more less : ℕ) (ns : List ℕ) → less ≤ more → IsAscendingFrom more ns → IsAscendingFrom less ns
ascending_less more less [] h k = tt
ascending_less more less (n ∷ ns) h k = ((let from = k.0 in omega (arith, h, from)), k.1)

-- a number behind the others
pub ascending_more : (f p : ℕ) (ns : List ℕ) → IsAscendingFrom f ns → last_from f ns ≤ p → IsAscendingFrom f (ns ++ p ∷ [])
ascending_more f p [] h least = (least, tt)
ascending_more f p (n ∷ ns) h least = (h.0, ascending_more n p ns h.1 least)

pub ascending_front : (f p : ℕ) (ns rest : List ℕ) → IsAscendingFrom f (ns ++ p ∷ rest) →
    IsAscendingFrom f (ns ++ p ∷ []) × (last_from f ns ≤ p) × IsAscendingFrom p rest
ascending_front f p [] rest h = ((h.0, tt), h.0, h.1)
ascending_front f p (n ∷ ns) rest h = let inner = ascending_front n p ns rest h.1 in ((h.0, inner.0), inner.1, inner.2)

-- the last number is at least the first bound
pub last_least : (f : ℕ) (ns : List ℕ) → IsAscendingFrom f ns → f ≤ last_from f ns
last_least f [] h = omega arith
last_least f (n ∷ ns) h = let rest = last_least n ns h.1 in let first = h.0 in omega (arith, rest, first)

-- a number above all of an ascending list doesn't stand in it
times_cons : (j n : ℕ) (ns : List ℕ) → times j (n ∷ ns) ≡ cond (n == j) 1 0 + times j ns
times_cons j n ns = sum_by-cons (λ k. cond (k == j) 1 0) n ns

pub times_append : (j : ℕ) (ms ns : List ℕ) → times j (ms ++ ns) ≡ times j ms + times j ns
times_append j [] ns = omega arith
times_append j (m ∷ ms) ns =
    let rest = times_append j ms ns in
    let whole = times_cons j m (ms ++ ns) in
    let first = times_cons j m ms in
    omega (arith, whole, first, rest)

eq_of : (a b : ℕ) → (a == b) ≡ true → a ≡ b
eq_of a b h = grind (arith, nat_tests)

eq_same : (a : ℕ) → (a == a) ≡ true
eq_same a = grind (arith, nat_tests)

ne_cond : (n j : ℕ) (b : Bool) → (n == j) ≡ b → (n ≡ j → ⊥) → ◌≡◌ {A = ℕ} (cond b 1 0) 0
ne_cond n j true h differ = absurd (differ (eq_of n j h))
ne_cond n j false h differ = refl

-- a number below all of an ascending list doesn't stand in it
pub times_below : (j f : ℕ) (ns : List ℕ) → IsAscendingFrom f ns → j < f → times j ns ≡ 0
times_below j f [] h less = refl
times_below j f (n ∷ ns) h less =
    let from = h.0 in
    let rest = times_below j n ns h.1 (omega (arith, less, from)) in
    let first = times_cons j n ns in
    let none = ne_cond n j (n == j) refl (λ same. omega (arith, same, less, from)) in
    omega (arith, first, none, rest)

pub times_one : (j : ℕ) → times j (j ∷ []) ≡ 1
times_one j = times_cons j j [] ∙ ap (λ b. cond b 1 0 + 0) (eq_same j)

pub times_other : (i j : ℕ) → (j ≡ i → ⊥) → times i (j ∷ []) ≡ 0
times_other i j differ =
    let first = times_cons i j [] in
    let none = ne_cond j i (j == i) refl differ in
    omega (arith, first, none)

-- lists with the same beginning
pub less_behind : (ps ms ns : List ℕ) → IsLess ms ns → IsLess (ps ++ ms) (ps ++ ns)
less_behind [] ms ns h = h
less_behind (p ∷ ps) ms ns h = inr (refl, less_behind ps ms ns h)

pub less_inside : (ps ms ns : List ℕ) → IsLess (ps ++ ms) (ps ++ ns) → IsLess ms ns
less_inside [] ms ns h = h
less_inside (p ∷ ps) ms ns (inl less) = absurd (let bad : ⊥ = omega (arith, less) in bad)
less_inside (p ∷ ps) ms ns (inr rest) = less_inside ps ms ns rest.1
