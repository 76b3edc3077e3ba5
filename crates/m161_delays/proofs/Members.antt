use Rattle.std.proofs.Common.{◌≡◌, ◌∙◌, refl, ap, subst, sym, ℕ, ◌+◌, ◌<◌, ◌≤◌, Bool, true, false, cond, List, [], ◌∷◌, arith}
use Rattle.std.proofs.lemmas.Bool.Decides.{nat_tests}
use Rattle.std.proofs.lemmas.List.Sums.{sum_by-cons}
use Rattle.std.specs.Prelude.{◌==◌}
use Rattle.std.specs.List.{AllByRecursion}
use Rattle.m161_delays.specs.Lists.{IsAscendingFrom, times}

-- What holds of each number of a list holds of a part of it.

times_cons : (j n : ℕ) (ns : List ℕ) → times j (n ∷ ns) ≡ cond (n == j) 1 0 + times j ns
times_cons j n ns = sum_by-cons (λ k. cond (k == j) 1 0) n ns

here : (n : ℕ) (ns : List ℕ) → 1 ≤ times n (n ∷ ns)
here n ns =
    let same : (n == n) ≡ true = grind (arith, nat_tests) in
    let first = times_cons n n ns ∙ ap (λ b. cond b 1 0 + times n ns) same in
    omega (arith, first)

more : (j n : ℕ) (ns : List ℕ) → times j ns ≤ times j (n ∷ ns)
more j n ns = let first = times_cons j n ns in omega (arith, first)

-- by each number that stands in a list
of_each : (P : ℕ → Type 0) (ns : List ℕ) → ((j : ℕ) → 1 ≤ times j ns → P j) → AllByRecursion P ns
of_each P [] h = tt
of_each P (n ∷ ns) h = (h n (here n ns), of_each P ns (λ j some. let less = more j n ns in h j (omega (arith, some, less))))

eq_of : (a b : ℕ) → (a == b) ≡ true → b ≡ a
eq_of a b h = grind (arith, nat_tests)

each_if : (P : ℕ → Type 0) (j n : ℕ) (ns : List ℕ) (b : Bool) → (n == j) ≡ b → P n → (1 ≤ times j ns → P j) →
    1 ≤ cond b 1 0 + times j ns → P j
each_if P j n ns true same of_n of_rest some = subst P (sym (eq_of n j same)) of_n
each_if P j n ns false other of_n of_rest some = of_rest (omega (arith, some))

each_of : (P : ℕ → Type 0) (ns : List ℕ) → AllByRecursion P ns → (j : ℕ) → 1 ≤ times j ns → P j
each_of P [] h j some = absurd (let bad : ⊥ = omega (arith, some) in bad)
each_of P (n ∷ ns) h j some =
    let first = times_cons j n ns in
    each_if P j n ns (n == j) refl h.0 (each_of P ns h.1 j) (omega (arith, some, first))

-- the bounds of a class
pub below_part : (within : ℕ) (all part : List ℕ) → AllByRecursion (λ n. n < within) all → ((j : ℕ) → times j part ≤ times j all) →
    AllByRecursion (λ n. n < within) part
below_part within all part h is_part =
    of_each (λ n. n < within) part (λ j some. let less = is_part j in each_of (λ n. n < within) all h j (omega (arith, some, less)))

raise : (from n : ℕ) (ns : List ℕ) → from ≤ n → AllByRecursion (λ k. n ≤ k) ns → AllByRecursion (λ k. from ≤ k) ns
raise from n [] more all = tt
raise from n (k ∷ ns) more all = ((let first = all.0 in omega (arith, more, first)), raise from n ns more all.1)

least : (from : ℕ) (ns : List ℕ) → IsAscendingFrom from ns → AllByRecursion (λ n. from ≤ n) ns
least from [] h = tt
least from (n ∷ ns) h = (h.0, raise from n ns h.0 (least n ns h.1))

from_first : (from : ℕ) (ns : List ℕ) → IsAscendingFrom 0 ns → AllByRecursion (λ n. from ≤ n) ns → IsAscendingFrom from ns
from_first from [] h all = tt
from_first from (n ∷ ns) h all = (all.0, h.1)

pub from_part : (from : ℕ) (all part : List ℕ) → IsAscendingFrom from all → IsAscendingFrom 0 part → ((j : ℕ) → times j part ≤ times j all) →
    IsAscendingFrom from part
from_part from all part h ascending is_part =
    from_first from part ascending
    (of_each (λ n. from ≤ n) part (λ j some. let less = is_part j in each_of (λ n. from ≤ n) all (least from all h) j (omega (arith, some, less))))
