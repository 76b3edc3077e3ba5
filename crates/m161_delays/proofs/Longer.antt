use Rattle.std.proofs.Common.{◌≡◌, ◌∙◌, refl, sym, ap, ℕ, suc, ◌-◌, ◌<◌, ◌≤◌, Bool, true, false, List, [], ◌∷◌, length, arith}
use Rattle.std.proofs.lemmas.Bool.Decides.{nat_tests}
use Rattle.std.specs.Prelude.{Option, None, Some, ◌&&◌, ◌==◌, if◌then◌else◌, nat_lt, slice_index, slice_index_or}
use Rattle.m161_order.specs.Delays.{delay_fault}
use Rattle.m161_order.specs.declared.delays.DelayError.{DelayError}
use Rattle.m161_order.specs.declared.delays.DelayError.TheVariants.{TooMany, Descending}
use Rattle.m161_delays.specs.helpers.Last.{last_from}

-- The last number of a list.

pub last_index : (f d : ℕ) (ns : List ℕ) → 0 < length ns → slice_index_or ns (length ns - 1) d ≡ last_from f ns
last_index f d [] some = absurd (let bad : ⊥ = omega (arith, some) in bad)
last_index f d (n ∷ []) some = refl
last_index f d (n ∷ m ∷ ns) some =
    let inner = last_index n d (m ∷ ns) (omega arith) in
    let next : length (n ∷ m ∷ ns) - 1 ≡ suc (length (m ∷ ns) - 1) = omega arith in
    ap (λ k. slice_index_or (n ∷ m ∷ ns) k d) next ∙ inner

pub none_last : (f : ℕ) (ns : List ℕ) → length ns ≡ 0 → last_from f ns ≡ f
none_last f [] none = refl
none_last f (n ∷ ns) none = absurd (let bad : ⊥ = omega (arith, none) in bad)

fits : (many some less : Bool) → many ≡ false → (some ≡ true → less ≡ false) →
    (if many then Some TooMany else if some && less then Some Descending else None) ≡ None
fits true some less h k = let bad : true ≡ false = h in absurd cc
fits false false less h k = refl
fits false true less h k = ap (λ b. if b then Some Descending else None) (k refl)

few_not : (n : ℕ) → n < 64 → (n == 64) ≡ false
few_not n h = grind (arith, nat_tests)

not_less : (a b : ℕ) → b ≤ a → nat_lt a b ≡ false
not_less a b h = grind (arith, nat_tests)

some_of : (n : ℕ) → nat_lt 0 n ≡ true → 0 < n
some_of n h = grind (arith, nat_tests)

-- a number that isn't less than the last one has room behind it
pub no_fault : (ns : List ℕ) (n : ℕ) → length ns < 64 → last_from 0 ns ≤ n → delay_fault ns n ≡ None
no_fault ns n few least =
    fits (length ns == 64) (nat_lt 0 (length ns)) (nat_lt n (slice_index ns (length ns - 1))) (few_not (length ns) few)
    (λ some. let last = last_index 0 0 ns (some_of (length ns) some) in not_less n (slice_index ns (length ns - 1)) (omega (arith, last, least)))

pub no_error : {e : DelayError} (o : Option DelayError) → o ≡ None → o ≡ Some e → ⊥
no_error {e} o none some = let bad : ◌≡◌ {A = Option DelayError} None (Some e) = sym none ∙ some in cc

pub some_in : (ns : List ℕ) → (length ns == 0) ≡ false → 0 < length ns
some_in ns h = grind (arith, nat_tests)
