use Rattle.std.proofs.Common.{◌≡◌, ◌∙◌, refl, ap, sym, subst, ℕ, ◌+◌, ◌<◌, ◌≤◌, Bool, true, false, List, [], ◌∷◌, ◌++◌, length, take, get_or, arith}
use Rattle.std.proofs.lemmas.Bool.Decides.{nat_tests}
use Rattle.std.proofs.lemmas.List.{get_or-take, length-append}
use Rattle.std.specs.Prelude.{nat_lt, slice_index}
use Rattle.std.specs.List.{AllByRecursion}
use Rattle.m161_delays.specs.declared.search.Class.{Class}
use Rattle.m161_delays.specs.Lists.{AgreeBelow, IsAscendingFrom, IsUseful, times}
use Rattle.m161_delays.specs.helpers.Last.{last_from}
use Rattle.m161_delays.specs.Runs.{ChooseAlike, IsUsefulOf}
use Rattle.m161_delays.proofs.Ordering.{ascending_front, ascending_more, times_append, times_below, times_one, times_other}

-- Useful lists, and those with a number more.

-- runs that are alike up to a place offer the same there
same_at : (j i : ℕ) (xs ys : List ℕ) → i ≤ j → take (j + 1) xs ≡ take (j + 1) ys → slice_index xs i ≡ slice_index ys i
same_at j i xs ys within h =
    sym (get_or-take (j + 1) xs i 0 (omega (arith, within))) ∙ ap (λ zs. get_or zs i 0) h ∙ get_or-take (j + 1) ys i 0 (omega (arith, within))

-- what stands behind a number p, all at least p, doesn't matter below p
agree_front : (p : ℕ) (ns rest : List ℕ) → IsAscendingFrom p rest → AgreeBelow p (ns ++ p ∷ rest) ns
agree_front p ns rest h i less =
    let whole = times_append i ns (p ∷ rest) in
    let none = times_below i p (p ∷ rest) (omega arith, h) less in
    omega (arith, whole, none)

last_at : (f p : ℕ) (ns : List ℕ) → IsAscendingFrom f (ns ++ p ∷ []) → f ≤ p
last_at f p [] h = h.0
last_at f p (n ∷ ns) h = let rest = last_at n p ns h.1 in let first = h.0 in omega (arith, rest, first)

-- an ascending list with p at its end has nothing above p
nothing_above : (f p i : ℕ) (ns : List ℕ) → IsAscendingFrom f (ns ++ p ∷ []) → p < i → times i (ns ++ p ∷ []) ≡ 0
nothing_above f p i [] h more = times_other i p (λ same. omega (arith, same, more))
nothing_above f p i (n ∷ ns) h more =
    let last = last_at n p ns h.1 in
    let rest = nothing_above n p i ns h.1 more in
    let first = times_append i (n ∷ []) (ns ++ p ∷ []) in
    let none = times_other i n (λ same. omega (arith, same, more, last)) in
    omega (arith, first, none, rest)

lt_of : (a b : ℕ) → nat_lt a b ≡ true → a < b
lt_of a b h = grind (arith, nat_tests)

not_lt_of : (a b : ℕ) → nat_lt a b ≡ false → a ≤ b → a ≡ b
not_lt_of a b h within = grind (arith, nat_tests)

ge_of : (a b : ℕ) → nat_lt a b ≡ false → b ≤ a
ge_of a b h = grind (arith, nat_tests)

by_side : (f p j : ℕ) (ns : List ℕ) → IsAscendingFrom f (ns ++ p ∷ []) → 1 ≤ times j (ns ++ p ∷ []) → (more : Bool) → nat_lt p j ≡ more → j ≤ p
by_side f p j ns h one true is =
    let none = nothing_above f p j ns h (lt_of p j is) in absurd (let bad : ⊥ = omega (arith, none, one) in bad)
by_side f p j ns h one false is = ge_of p j is

stands_in : (f p j : ℕ) (ns : List ℕ) → IsAscendingFrom f (ns ++ p ∷ []) → 1 ≤ times j (ns ++ p ∷ []) → j ≤ p
stands_in f p j ns h one = by_side f p j ns h one (nat_lt p j) refl

-- all below a bound
below_more : (within p : ℕ) (ns : List ℕ) → AllByRecursion (λ n. n < within) ns → p < within → AllByRecursion (λ n. n < within) (ns ++ p ∷ [])
below_more within p [] h less = (less, tt)
below_more within p (n ∷ ns) h less = (h.0, below_more within p ns h.1 less)

below_front : (within p : ℕ) (ns rest : List ℕ) → AllByRecursion (λ n. n < within) (ns ++ p ∷ rest) → AllByRecursion (λ n. n < within) (ns ++ p ∷ [])
below_front within p [] rest h = (h.0, tt)
below_front within p (n ∷ ns) rest h = (h.0, below_front within p ns rest h.1)

below_at : (within p : ℕ) (ns rest : List ℕ) → AllByRecursion (λ n. n < within) (ns ++ p ∷ rest) → p < within
below_at within p [] rest h = h.0
below_at within p (n ∷ ns) rest h = below_at within p ns rest h.1

useful_if : (offers : List ℕ → List ℕ) (ns : List ℕ) (p j : ℕ) (less : Bool) → nat_lt j p ≡ less → IsUseful (offers ns) ns →
    times p ns + 1 < slice_index (offers ns) p → slice_index (offers (ns ++ p ∷ [])) j ≡ slice_index (offers ns) j → j ≤ p →
    1 ≤ times j (ns ++ p ∷ []) → times j (ns ++ p ∷ []) < slice_index (offers (ns ++ p ∷ [])) j
useful_if offers ns p j true h useful some same within one =
    let lower : j < p = lt_of j p h in
    let parts = times_append j ns (p ∷ []) in
    let none = times_other j p (λ equal. omega (arith, equal, lower)) in
    let bound = useful j (omega (arith, one, parts, none)) in
    omega (arith, bound, same, parts, none)
useful_if offers ns p j false h useful some same within one =
    let here : j ≡ p = not_lt_of j p h within in
    subst (λ k. times k (ns ++ p ∷ []) < slice_index (offers (ns ++ p ∷ [])) k) (sym here)
    (let parts = times_append p ns (p ∷ []) in
    let one_more = times_one p in
    let there : slice_index (offers (ns ++ p ∷ [])) p ≡ slice_index (offers ns) p =
    subst (λ k. slice_index (offers (ns ++ p ∷ [])) k ≡ slice_index (offers ns) k) here same in
    omega (arith, some, parts, one_more, there))

-- the list with p behind it is useful
pub useful_more : (class : Class) (offers : List ℕ → List ℕ) (ns : List ℕ) (p : ℕ) → ChooseAlike offers → IsUsefulOf class offers ns →
    length ns < class.most → last_from class.from ns ≤ p → p < class.within → times p ns + 1 < slice_index (offers ns) p →
    IsUsefulOf class offers (ns ++ p ∷ [])
useful_more class offers ns p alike useful room least within some = (
  record {
    few = let size = length-append ns (p ∷ []) in omega (arith, size, room);
    ascending = ascending_more class.from p ns useful.0.ascending least;
    below = below_more class.within p ns useful.0.below within;
  },
  λ j one.
      let same : slice_index (offers (ns ++ p ∷ [])) j ≡ slice_index (offers ns) j =
      same_at p j (offers (ns ++ p ∷ [])) (offers ns) (stands_in class.from p j ns (ascending_more class.from p ns useful.0.ascending least) one)
      (alike p (ns ++ p ∷ []) ns (agree_front p ns [] tt)) in
      useful_if offers ns p j (nat_lt j p) refl useful.1 some same (stands_in class.from p j ns (ascending_more class.from p ns useful.0.ascending least) one) one,
)

-- a useful list whose next number behind these is p
pub record Next (class : Class) (offers : List ℕ → List ℕ) (ns : List ℕ) (p : ℕ) : Type 0 where
  pub is_useful : IsUsefulOf class offers (ns ++ p ∷ [])
  pub least : last_from class.from ns ≤ p
  pub within : p < class.within
  pub some : times p ns + 1 < slice_index (offers ns) p

pub useful_front : (class : Class) (offers : List ℕ → List ℕ) (ns rest : List ℕ) (p : ℕ) → ChooseAlike offers →
    IsUsefulOf class offers (ns ++ p ∷ rest) → Next class offers ns p
useful_front class offers ns rest p alike useful =
    let front = ascending_front class.from p ns rest useful.0.ascending in
    let whole = times_append p ns (p ∷ rest) in
    let one = times_append p (p ∷ []) rest in
    let here = times_one p in
    let few : times p ns + 1 ≤ times p (ns ++ p ∷ rest) = omega (arith, whole, one, here) in
    let some = useful.1 p (omega (arith, few)) in
    let at : slice_index (offers (ns ++ p ∷ rest)) p ≡ slice_index (offers ns) p =
    same_at p p (offers (ns ++ p ∷ rest)) (offers ns) (omega arith) (alike p (ns ++ p ∷ rest) ns (agree_front p ns rest front.2)) in
    let enough : times p ns + 1 < slice_index (offers ns) p = omega (arith, some, at, few) in
    record {
      is_useful = (
        record {
          few =
              let size = length-append ns (p ∷ rest) in let short = length-append ns (p ∷ []) in let most = useful.0.few in
              omega (arith, size, short, most);
          ascending = front.0;
          below = below_front class.within p ns rest useful.0.below;
        },
        λ j one_there.
            let in_it = stands_in class.from p j ns front.0 one_there in
            let there : slice_index (offers (ns ++ p ∷ [])) j ≡ slice_index (offers (ns ++ p ∷ rest)) j =
            same_at p j (offers (ns ++ p ∷ [])) (offers (ns ++ p ∷ rest)) in_it
            (alike p (ns ++ p ∷ []) (ns ++ p ∷ rest) (λ i less.
            agree_front p ns [] tt i less ∙ sym (agree_front p ns rest front.2 i less))) in
            let parts = times_append j ns (p ∷ rest) in
            let parts_one = times_append j ns (p ∷ []) in
            let more = times_append j (p ∷ []) rest in
            let bound = useful.1 j (omega (arith, one_there, parts, parts_one, more)) in
            omega (arith, bound, there, parts, parts_one, more),
      );
      least = front.1;
      within = below_at class.within p ns rest useful.0.below;
      some = enough;
    }
