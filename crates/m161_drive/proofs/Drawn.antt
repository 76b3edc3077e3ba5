use Rattle.std.proofs.Common.{◌≡◌, ◌∙◌, refl, sym, ap, ℕ, suc, ◌+◌, ◌-◌, ◌<◌, ◌≤◌, false, not, List, [], ◌∷◌, ◌++◌, length, take, set, arith, append_assoc}
use Rattle.std.proofs.lemmas.Bool.Decides.{nat_tests}
use Rattle.std.proofs.lemmas.Grind.{take-set_at}
use Rattle.std.specs.Prelude.{◌&&◌, nat_lt, swap}
use Rattle.m161_machine.specs.Resting.{rests}
use Rattle.m161_machine.specs.State.{State}
use Rattle.m161_drive.specs.Ready.{is_ready}
use Rattle.rand_pcg.specs.Lcg.{Lcg}
use Rattle.m161_drive.specs.Priorities.{shuffled}
use Rattle.m161_drive.specs.Words.{after_word, after_words, below, draws}

-- The order by priorities.

-- a swap of a shuffle
pub shuffled_more : (i : ℕ) (order : List ℕ) (g : Lcg) → 0 < i →
    shuffled i order g ≡ shuffled (i - 1) (swap order i (below (i + 1) g)) (after_word g)
shuffled_more i order g h =
    let e : i ≡ suc (i - 1) = omega arith in
    ap (λ n. shuffled n order g) e ∙ ap (λ n. shuffled (i - 1) (swap order n (below (n + 1) g)) (after_word g)) (sym e)

pub after_words_more : (i : ℕ) (g : Lcg) → 0 < i → after_words i g ≡ after_words (i - 1) (after_word g)
after_words_more i g h = let e : i ≡ suc (i - 1) = omega arith in ap (λ n. after_words n g) e

-- a word of those that are left
pub words_left : (n i : ℕ) (g : Lcg) → i < n → after_words (n - i) g ≡ after_words (n - (i + 1)) (after_word g)
words_left n i g h = let e : n - i ≡ suc (n - (i + 1)) = omega arith in ap (λ k. after_words k g) e

draws_left : (n i m : ℕ) (g : Lcg) → i < n → draws (n - i) m g ≡ below m g ∷ draws (n - (i + 1)) m (after_word g)
draws_left n i m g h = let e : n - i ≡ suc (n - (i + 1)) = omega arith in ap (λ k. draws k m g) e

-- and the number that is written of it
pub drawn_more : (n i m : ℕ) (g : Lcg) (xs : List ℕ) → i < n → i < length xs →
    take i xs ++ draws (n - i) m g ≡ take (i + 1) (set xs i (below m g)) ++ draws (n - (i + 1)) m (after_word g)
drawn_more n i m g xs h there =
    let rest = draws (n - (i + 1)) m (after_word g) in
    let front : take (i + 1) (set xs i (below m g)) ≡ take i xs ++ below m g ∷ [] =
    take-set_at xs i (i + 1) (below m g) refl there in
    ap (λ ys. take i xs ++ ys) (draws_left n i m g h)
    ∙ sym (append_assoc (take i xs) (below m g ∷ []) rest)
    ∙ ap (λ ys. ys ++ rest) (sym front)

-- a processor that the machine doesn't have
lt_not : (p n : ℕ) → n ≤ p → nat_lt p n ≡ false
lt_not p n h = grind (arith, nat_tests)

pub not_there : (s : State) (p : ℕ) → length s.processors ≤ p → is_ready s p ≡ false
not_there s p h = ap (λ b. b && not (rests p s)) (lt_not p (length s.processors) h)
