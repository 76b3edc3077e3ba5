use Rattle.std.proofs.Common.{◌≡◌, ℕ, ◌+◌, ◌*◌, ◌<◌, ◌≤◌, List, [], ◌∷◌, length, refl, subst, arith, inl, inr}
use Rattle.std.proofs.Math.Nat.{eq-or-lt_of_le}
use mathlib.Core.List.{reverse_aux}
use Rattle.m161_explore.specs.Lists.{ComesBefore, IsLess}

-- The place of a list of events among all lists: the shorter ones first, and those of one length in
-- the order of their events.

-- of a list that is turned round
abbrev pub rank : ℕ → List ℕ → ℕ
rank n [] = 0
rank n (e ∷ es) = n * rank n es + e + 1

-- of a list that comes after events with this rank
abbrev pub rank_from : ℕ → ℕ → List ℕ → ℕ
rank_from n q [] = q
rank_from n q (e ∷ es) = rank_from n (n * q + e + 1) es

-- each event is below n
abbrev pub AreBelow : ℕ → List ℕ → Type 0
AreBelow n [] = Unit {0}
AreBelow n (e ∷ es) = (e < n) × AreBelow n es

pub rank-turned : (n : ℕ) (es acc : List ℕ) → rank n (reverse_aux es acc) ≡ rank_from n (rank n acc) es
rank-turned n [] acc = refl
rank-turned n (e ∷ es) acc = rank-turned n es (e ∷ acc)

pub times_less : (n a b e : ℕ) → a < b → e < n → n * a + e < n * b
times_less n a b e h k = grind arith

pub times_le : (n a b : ℕ) → a ≤ b → n * a ≤ n * b
times_le n a b h = grind arith

pub longer_rank : (n r q : ℕ) (es fs : List ℕ) → AreBelow n es → length es ≡ length fs → r < q → rank_from n r es < rank_from n q fs
longer_rank n r q [] [] b l h = h
longer_rank n r q [] (f ∷ fs) b l h = absurd (omega arith)
longer_rank n r q (e ∷ es) [] b l h = absurd (omega arith)
longer_rank n r q (e ∷ es) (f ∷ fs) b l h =
    longer_rank n (n * r + e + 1) (n * q + f + 1) es fs b.1 (omega arith)
    (omega (arith, times_less n r q e h b.0))

pub less_rank : (n r : ℕ) (es fs : List ℕ) → AreBelow n es → length es ≡ length fs → IsLess es fs → rank_from n r es < rank_from n r fs
less_rank n r [] fs b l h = absurd h
less_rank n r (e ∷ es) [] b l h = absurd h
less_rank n r (e ∷ es) (f ∷ fs) b l (inl h) =
    longer_rank n (n * r + e + 1) (n * r + f + 1) es fs b.1 (omega arith) (omega arith)
less_rank n r (e ∷ es) (f ∷ fs) b l (inr h) =
    let E : ℕ → Type 0 = λ x. rank_from n (n * r + e + 1) es < rank_from n (n * r + x + 1) fs in
    subst E h.0 (less_rank n (n * r + e + 1) es fs b.1 (omega arith) h.1)

pub shorter_rank : (n r q : ℕ) (es fs : List ℕ) → AreBelow n es → AreBelow n fs → length es ≤ length fs → r < q → rank_from n r es < rank_from n q fs
shorter_rank n r q [] [] b c l h = h
shorter_rank n r q (e ∷ es) [] b c l h = absurd (omega arith)
shorter_rank n r q [] (f ∷ fs) b c l h =
    shorter_rank n r (n * q + f + 1) [] fs b c.1 (omega arith)
    (omega (arith, times_le q 1 n (omega arith)))
shorter_rank n r q (e ∷ es) (f ∷ fs) b c l h =
    elim (eq-or-lt_of_le l) [
      | inl k ↦ longer_rank n r q (e ∷ es) (f ∷ fs) b k h
      | inr k ↦
          shorter_rank n r (n * q + f + 1) (e ∷ es) fs b c.1 (omega arith)
          (omega (arith, times_le q 1 n (omega arith)))
    ]

-- a list that comes before another one has a lower rank
pub rank-before : (n : ℕ) (es fs : List ℕ) → AreBelow n es → AreBelow n fs → ComesBefore es fs → rank_from n 0 es < rank_from n 0 fs
rank-before n es [] b c (inl h) = absurd (omega arith)
rank-before n es (f ∷ fs) b c (inl h) = shorter_rank n 0 (n * 0 + f + 1) es fs b c.1 (omega arith) (omega arith)
rank-before n es fs b c (inr h) = less_rank n 0 es fs b h.0 h.1
