use Rattle.std.proofs.Common.{◌≡◌, refl, subst, ℕ, Bool, List, [], ◌∷◌, arith, inl, inr}
use Rattle.m161_order.specs.Delays.{delays_of}
use Rattle.m161_delays.specs.declared.walk.Found.{Found}
use Rattle.m161_delays.specs.Lists.{ComesBefore, IsLess}
use Rattle.m161_delays.specs.helpers.Walking.{IsFirstSo}

-- What became of one run.

-- no list comes before itself
not_less : (ns : List ℕ) → IsLess ns ns → ⊥
not_less [] h = h
not_less (n ∷ ns) (inl less) = let bad : ⊥ = omega (arith, less) in bad
not_less (n ∷ ns) (inr rest) = not_less ns rest.1

pub not_before : (ns : List ℕ) → ComesBefore ns ns → ⊥
not_before ns (inl shorter) = let bad : ⊥ = omega (arith, shorter) in bad
not_before ns (inr less) = not_less ns less.1

pub first_one : {W : Type 0} (right : List ℕ → Bool → Type 0) (wrong : List ℕ → W → Type 0) (found : Found W) →
    wrong (delays_of found.delays) found.wrong →
    IsFirstSo (λ z. z ≡ delays_of found.delays) right wrong found
first_one right wrong found is_wrong = record {
  is_so = refl;
  is_wrong = is_wrong;
  before = λ others same order. absurd (not_before (delays_of found.delays) (subst (λ z. ComesBefore z (delays_of found.delays)) same order));
}

-- of two lists, one alone comes before the other
not_both_less : (ms ns : List ℕ) → IsLess ms ns → IsLess ns ms → ⊥
not_both_less [] ns h k = h
not_both_less (m ∷ ms) [] h k = h
not_both_less (m ∷ ms) (n ∷ ns) (inl less) (inl more) = let bad : ⊥ = omega (arith, less, more) in bad
not_both_less (m ∷ ms) (n ∷ ns) (inl less) (inr more) = let same = more.0 in let bad : ⊥ = omega (arith, less, same) in bad
not_both_less (m ∷ ms) (n ∷ ns) (inr less) (inl more) = let same = less.0 in let bad : ⊥ = omega (arith, more, same) in bad
not_both_less (m ∷ ms) (n ∷ ns) (inr less) (inr more) = not_both_less ms ns less.1 more.1

pub not_both : (ms ns : List ℕ) → ComesBefore ms ns → ComesBefore ns ms → ⊥
not_both ms ns (inl less) (inl more) = let bad : ⊥ = omega (arith, less, more) in bad
not_both ms ns (inl less) (inr more) = let same = more.0 in let bad : ⊥ = omega (arith, less, same) in bad
not_both ms ns (inr less) (inl more) = let same = less.0 in let bad : ⊥ = omega (arith, more, same) in bad
not_both ms ns (inr less) (inr more) = not_both_less ms ns less.1 more.1
