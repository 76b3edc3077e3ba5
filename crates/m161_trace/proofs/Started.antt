use Rattle.std.proofs.Common.{◌≡◌, ◌≢◌, ◌∙◌, refl, sym, ap, ℕ, zero, suc, ◌+◌, ◌<◌, ◌≤◌, Bool, true, false, List, [], ◌∷◌, length, get_or, set, arith, get_or-set_other}
use Rattle.std.specs.Prelude.{not, ◌&&◌, if◌then◌else◌}
use Rattle.std.proofs.lemmas.List.{length-set}
use Rattle.m161_isa.specs.Bits.{has_bit}
use Rattle.m161_bus.specs.Board.{BoardState, start_words}
use Rattle.m161_cpu.specs.Processor.{Processor, started_processor}
use Rattle.m161_machine.specs.State.{started_by, with_starts}

-- The processors after a Step: those that CPUE starts, and the others.

starts_at : (before : ℕ) (board : BoardState) (k : ℕ) (ps : List Processor) (q : ℕ) (d : Processor) → q < length ps →
    get_or (with_starts before board k ps) q d ≡ started_by before board (k + q) (get_or ps q d)
starts_at before board k [] q d lt = absurd (let bad : ⊥ = omega (arith, lt) in bad)
starts_at before board k (p ∷ ps) zero d lt = let here : k ≡ k + 0 = omega arith in ap (λ c. started_by before board c p) here
starts_at before board k (p ∷ ps) (suc q) d lt =
    let there : k + 1 + q ≡ k + suc q = omega arith in
    starts_at before board (k + 1) ps q d (let l : q < length ps = omega (arith, lt) in l) ∙ ap (λ c. started_by before board c (get_or ps q d)) there

past_end : (before : ℕ) (board : BoardState) (k : ℕ) (ps : List Processor) (q : ℕ) (d : Processor) → length ps ≤ q → get_or (with_starts before board k ps) q d ≡ d
past_end before board k [] q d le = refl
past_end before board k (p ∷ ps) zero d le = absurd (let bad : ⊥ = omega (arith, le) in bad)
past_end before board k (p ∷ ps) (suc q) d le = past_end before board (k + 1) ps q d (let l : length ps ≤ q = omega (arith, le) in l)

none_past : (ps : List Processor) (q : ℕ) (d : Processor) → length ps ≤ q → get_or ps q d ≡ d
none_past [] q d le = refl
none_past (p ∷ ps) zero d le = absurd (let bad : ⊥ = omega (arith, le) in bad)
none_past (p ∷ ps) (suc q) d le = none_past ps q d (let l : length ps ≤ q = omega (arith, le) in l)

pub as_many : (before : ℕ) (board : BoardState) (k : ℕ) (ps : List Processor) → length (with_starts before board k ps) ≡ length ps
as_many before board k [] = refl
as_many before board k (p ∷ ps) = ap suc (as_many before board (k + 1) ps)

-- another processor
other_at : (before : ℕ) (board : BoardState) (ps : List Processor) (p q : ℕ) (x d : Processor) → q ≢ p → q < length ps →
    get_or (with_starts before board 0 (set ps p x)) q d ≡ started_by before board q (get_or ps q d)
other_at before board ps p q x d ne lt =
    let inside : q < length (set ps p x) = simp length-set lt in
    let here : 0 + q ≡ q = omega arith in
    starts_at before board 0 (set ps p x) q d inside ∙ ap (λ c. started_by before board c (get_or (set ps p x) q d)) here ∙ ap (started_by before board q) (get_or-set_other ps p q x d ne)

kept_if : (t : Bool) (x y : Processor) → t ≡ false → (if t then x else y) ≡ y
kept_if true x y is = absurd (let bad : true ≡ false = is in cc)
kept_if false x y is = refl

started_if : (t : Bool) (x y : Processor) → t ≡ true → (if t then x else y) ≡ x
started_if true x y is = refl
started_if false x y is = absurd (let bad : false ≡ true = is in cc)

abbrev pub is_new : ℕ → ℕ → ℕ → Bool
is_new before after q = has_bit after q && not (has_bit before q)

pub other_kept : (before : ℕ) (board : BoardState) (ps : List Processor) (p q : ℕ) (x d : Processor) → q ≢ p → q < length ps → is_new before board.started q ≡ false →
    get_or (with_starts before board 0 (set ps p x)) q d ≡ get_or ps q d
other_kept before board ps p q x d ne lt old =
    other_at before board ps p q x d ne lt ∙ kept_if (is_new before board.started q) _ (get_or ps q d) old

pub other_started : (before : ℕ) (board : BoardState) (ps : List Processor) (p q : ℕ) (x d : Processor) → q ≢ p → q < length ps → is_new before board.started q ≡ true →
    get_or (with_starts before board 0 (set ps p x)) q d
    ≡ started_processor (start_words q board).pc (start_words q board).r4 (start_words q board).r29 (get_or ps q d).count
other_started before board ps p q x d ne lt new =
    other_at before board ps p q x d ne lt ∙ started_if (is_new before board.started q) _ (get_or ps q d) new

pub other_past : (before : ℕ) (board : BoardState) (ps : List Processor) (p q : ℕ) (x d : Processor) → length ps ≤ q →
    get_or (with_starts before board 0 (set ps p x)) q d ≡ get_or ps q d
other_past before board ps p q x d le =
    past_end before board 0 (set ps p x) q d (simp length-set le) ∙ sym (none_past ps q d le)

-- with CPUE as it was there is no start
not_again : (bit : Bool) (x y : Processor) → (if bit && not bit then x else y) ≡ y
not_again true x y = refl
not_again false x y = refl

none_starts : (before : ℕ) (board : BoardState) (c : ℕ) (p : Processor) → board.started ≡ before → started_by before board c p ≡ p
none_starts before board c p same =
    ap (λ m. if has_bit m c && not (has_bit before c)
    then started_processor (start_words c board).pc (start_words c board).r4 (start_words c board).r29 p.count else p) same
    ∙ not_again (has_bit before c) (started_processor (start_words c board).pc (start_words c board).r4 (start_words c board).r29 p.count) p

pub no_starts : (before : ℕ) (board : BoardState) (c : ℕ) (ps : List Processor) → board.started ≡ before → with_starts before board c ps ≡ ps
no_starts before board c [] same = refl
no_starts before board c (p ∷ ps) same =
    let first = none_starts before board c p same in
    let rest = no_starts before board (c + 1) ps same in
    λ i. first i ∷ rest i
