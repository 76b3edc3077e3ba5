use Rattle.std.proofs.Common.{◌≡◌, ◌∙◌, refl, sym, subst, ℕ, ◌<◌, ◌≤◌, List, [], ◌∷◌, ◌++◌, arith}
use Rattle.m161_delays.specs.Lists.{AgreeBelow}
use Rattle.m161_delays.specs.helpers.Last.{last_from}
use Rattle.m161_delays.specs.Runs.{StandsAt}
use Rattle.m161_delays.proofs.Ordering.{times_append, times_other}

-- The points of runs.

-- one stands further on too
pub stands_on : {P : Type 0} (IsOn : List ℕ → P → Type 0) (ns : List ℕ) (j k : ℕ) (p : P) → j ≤ k → StandsAt IsOn ns j p → StandsAt IsOn ns k p
stands_on IsOn ns j k p more h others agree = h others (λ i less. agree i (omega (arith, less, more)))

-- it is one of the run of the list with a number more
agree_longer : (ns : List ℕ) (j k : ℕ) → j ≤ k → AgreeBelow j ns (ns ++ k ∷ [])
agree_longer ns j k least i less =
    let whole = times_append i ns (k ∷ []) in
    let none = times_other i k (λ same. omega (arith, same, less, least)) in
    omega (arith, whole, none)

pub on_longer : {P : Type 0} (IsOn : List ℕ → P → Type 0) (ns : List ℕ) (j k : ℕ) (p : P) → j ≤ k → StandsAt IsOn ns j p → IsOn (ns ++ k ∷ []) p
on_longer IsOn ns j k p least h = h (ns ++ k ∷ []) (agree_longer ns j k least)

last_longer : (f k : ℕ) (ns : List ℕ) → last_from f (ns ++ k ∷ []) ≡ k
last_longer f k [] = refl
last_longer f k (n ∷ ns) = last_longer n k ns

-- where it stands at this number, it stands at it on the longer list
pub stands_longer : {P : Type 0} (IsOn : List ℕ → P → Type 0) (f : ℕ) (ns ms : List ℕ) (k : ℕ) (p : P) → ms ≡ ns ++ k ∷ [] → StandsAt IsOn ns k p →
    StandsAt IsOn ms (last_from f ms) p
stands_longer IsOn f ns ms k p is h =
    subst (λ xs. StandsAt IsOn xs (last_from f xs) p) (sym is)
    (λ others agree.
    h others
    (λ i less.
    agree_longer ns k k (omega arith) i less ∙ agree i (subst (λ m. i < m) (sym (last_longer f k ns)) less)))

-- a copy stands where it does
pub stands_copied : {P : Type 0} (IsOn : List ℕ → P → Type 0) (ns : List ℕ) (j : ℕ) (p q : P) → ((others : List ℕ) → IsOn others p → IsOn others q) →
    StandsAt IsOn ns j p → StandsAt IsOn ns j q
stands_copied IsOn ns j p q same h others agree = same others (h others agree)
