use Rattle.std.proofs.Common.{◌≡◌, ◌∙◌, refl, ap, sym, subst, ℕ, zero, suc, ◌+◌, ◌<◌, ◌≤◌, Bool, true, false, List, [], ◌∷◌, ◌++◌, length, take, drop, set, get_or, arith}
use Rattle.std.specs.Prelude.{not, ◌&&◌, if◌then◌else◌, All, replicate}
use Rattle.std.proofs.lemmas.List.Elements.{All-nil, All-cons, All-head, All-set, All-tail, All-weaker}
use Rattle.m161_tlb.specs.Rows.{AreApart}
use Rattle.m161_tlb.proofs.Apart.{start_apart}
use Rattle.m161_bus.specs.Board.{BoardState, start_words}
use Rattle.m161_cpu.specs.Processor.{Processor, started_processor, stopped_processor}
use Rattle.m161_isa.specs.Bits.{has_bit}
use Rattle.m161_machine.specs.State.{AreAllApart, started_by, with_starts}

-- The processors that CPUE starts.

-- a mask that is as before starts none
not_again : (bit : Bool) (a b : Processor) → (if bit && not bit then a else b) ≡ b
not_again true a b = refl
not_again false a b = refl

none_starts : (before : ℕ) (board : BoardState) → board.started ≡ before → (c : ℕ) (p : Processor) → started_by before board c p ≡ p
none_starts before board same c p =
    ap (λ m. if has_bit m c && not (has_bit before c)
    then started_processor (start_words c board).pc (start_words c board).r4 (start_words c board).r29 p.count else p) same
    ∙ not_again (has_bit before c) (started_processor (start_words c board).pc (start_words c board).r4 (start_words c board).r29 p.count) p

pub no_starts : (before : ℕ) (board : BoardState) (c : ℕ) (ps : List Processor) → board.started ≡ before → with_starts before board c ps ≡ ps
no_starts before board c [] same = refl
no_starts before board c (p ∷ ps) same =
    let first = none_starts before board same c p in
    let rest = no_starts before board (c + 1) ps same in
    λ i. first i ∷ rest i

pub same_length : (before : ℕ) (board : BoardState) (c : ℕ) (ps : List Processor) → length (with_starts before board c ps) ≡ length ps
same_length before board c [] = refl
same_length before board c (p ∷ ps) = ap (λ n. suc n) (same_length before board (c + 1) ps)

-- a start keeps the count
kept_count : (start : Bool) (a p : Processor) → a.count ≡ p.count → (if start then a else p).count ≡ p.count
kept_count true a p same = same
kept_count false a p same = refl

pub count_kept : (before : ℕ) (board : BoardState) (c : ℕ) (p : Processor) → (started_by before board c p).count ≡ p.count
count_kept before board c p =
    kept_count (has_bit board.started c && not (has_bit before c))
    (started_processor (start_words c board).pc (start_words c board).r4 (start_words c board).r29 p.count) p refl

pub counts_kept : (n before : ℕ) (board : BoardState) (c : ℕ) (ps : List Processor) →
    All (λ (p : Processor). p.count ≤ n) ps → All (λ (p : Processor). p.count ≤ n) (with_starts before board c ps)
counts_kept n before board c [] h = All-nil (λ (p : Processor). p.count ≤ n)
counts_kept n before board c (p ∷ ps) h =
    let P : Processor → Type 0 = λ q. q.count ≤ n in
    let first : p.count ≤ n = All-head P p ps h in
    let same = count_kept before board c p in
    All-cons P (started_by before board c p) (with_starts before board (c + 1) ps) (omega (arith, first, same))
    (counts_kept n before board (c + 1) ps (All-tail P p ps h))

-- one processor more, started or not
pub starts_more : (before : ℕ) (board : BoardState) (ps : List Processor) (k c : ℕ) (d : Processor) → c < length ps →
    set (with_starts before board k (take c ps) ++ drop c ps) c (started_by before board (k + c) (get_or ps c d))
    ≡ with_starts before board k (take (suc c) ps) ++ drop (suc c) ps
starts_more before board [] k c d inside = absurd (let bad : ⊥ = omega (arith, inside) in bad)
starts_more before board (p ∷ ps) k zero d inside =
    let here : k + 0 ≡ k = omega arith in ap (λ n. started_by before board n p ∷ ps) here
starts_more before board (p ∷ ps) k (suc c) d inside =
    let there : k + suc c ≡ k + 1 + c = omega arith in
    ap (λ qs. started_by before board k p ∷ qs)
    (ap (λ n. set (with_starts before board (k + 1) (take c ps) ++ drop c ps) c (started_by before board n (get_or ps c d))) there
    ∙ starts_more before board ps (k + 1) c d (omega (arith, inside)))

-- the place of the next processor is as it was
pub next_is : (before : ℕ) (board : BoardState) (ps : List Processor) (k c : ℕ) (d : Processor) → c < length ps →
    get_or (with_starts before board k (take c ps) ++ drop c ps) c d ≡ get_or ps c d
next_is before board [] k c d inside = absurd (let bad : ⊥ = omega (arith, inside) in bad)
next_is before board (p ∷ ps) k zero d inside = refl
next_is before board (p ∷ ps) k (suc c) d inside = next_is before board ps (k + 1) c d (omega (arith, inside))

pub started_more : (before : ℕ) (board : BoardState) (items ps : List Processor) (c : ℕ) (d x : Processor) → c < length ps →
    items ≡ with_starts before board 0 (take c ps) ++ drop c ps →
    d ≡ get_or items c d → x ≡ started_by before board c d →
    set items c x ≡ with_starts before board 0 (take (c + 1) ps) ++ drop (c + 1) ps
started_more before board items ps c d x inside so_far here new =
    let there : 0 + c ≡ c = omega arith in
    let next : c + 1 ≡ suc c = omega arith in
    let here_is : d ≡ get_or ps c d = here ∙ ap (λ xs. get_or xs c d) so_far ∙ next_is before board ps 0 c d inside in
    let x_is : x ≡ started_by before board (0 + c) (get_or ps c d) =
    new ∙ ap (started_by before board c) here_is ∙ ap (λ n. started_by before board n (get_or ps c d)) (sym there) in
    ap (λ xs. set xs c x) so_far ∙ ap (set (with_starts before board 0 (take c ps) ++ drop c ps) c) x_is
    ∙ starts_more before board ps 0 c d inside
    ∙ ap (λ n. with_starts before board 0 (take n ps) ++ drop n ps) (sym next)

-- the counts after a Step of one processor
pub counts_stepped : (n : ℕ) (ps : List Processor) (p : ℕ) (old new : Processor) →
    All (λ (q : Processor). q.count ≤ n) ps → p < length ps → old ≡ get_or ps p old → new.count ≡ old.count + 1 →
    All (λ (q : Processor). q.count ≤ n + 1) (set ps p new)
counts_stepped n ps p old new counts inside here counted =
    let P : Processor → Type 0 = λ q. q.count ≤ n in
    let was : old.count ≤ n = subst P (sym here) (counts p old inside) in
    All-set (λ (q : Processor). q.count ≤ n + 1) ps p new (omega (arith, was, counted))
    (All-weaker P (λ (q : Processor). q.count ≤ n + 1) (λ q h. omega (arith, h)) ps counts)

-- and once the processors were started that it starts
pub counts_started : (n before : ℕ) (board : BoardState) (ps qs : List Processor) (p : ℕ) (old new : Processor) →
    qs ≡ with_starts before board 0 (set ps p new) →
    All (λ (q : Processor). q.count ≤ n) ps → p < length ps → old ≡ get_or ps p old → new.count ≡ old.count + 1 →
    All (λ (q : Processor). q.count ≤ n + 1) qs
counts_started n before board ps qs p old new qs_are counts inside here counted =
    subst (All (λ (q : Processor). q.count ≤ n + 1)) (sym qs_are)
    (counts_kept (n + 1) before board 0 (set ps p new) (counts_stepped n ps p old new counts inside here counted))

-- on a strict machine, rows that don't overlap

apart_kept : (start : Bool) (a p : Processor) → AreApart a.rows → AreApart p.rows → AreApart (if start then a else p).rows
apart_kept true a p new old = new
apart_kept false a p new old = old

starts_apart : (before : ℕ) (board : BoardState) (c : ℕ) (ps : List Processor) → AreAllApart ps → AreAllApart (with_starts before board c ps)
starts_apart before board c [] h = All-nil (λ (p : Processor). AreApart p.rows)
starts_apart before board c (p ∷ ps) h =
    let P : Processor → Type 0 = λ q. AreApart q.rows in
    All-cons P (started_by before board c p) (with_starts before board (c + 1) ps)
    (apart_kept (has_bit board.started c && not (has_bit before c))
    (started_processor (start_words c board).pc (start_words c board).r4 (start_words c board).r29 p.count) p start_apart (All-head P p ps h))
    (starts_apart before board (c + 1) ps (All-tail P p ps h))

-- after a Step of one processor, and once the processors were started that it starts
pub apart_started : (before : ℕ) (board : BoardState) (ps qs : List Processor) (p : ℕ) (old new : Processor) →
    qs ≡ with_starts before board 0 (set ps p new) →
    AreAllApart ps → p < length ps → old ≡ get_or ps p old → (AreApart old.rows → AreApart new.rows) → AreAllApart qs
apart_started before board ps qs p old new qs_are apart inside here keeps =
    let P : Processor → Type 0 = λ q. AreApart q.rows in
    let was : AreApart old.rows = subst P (sym here) (apart p old inside) in
    subst AreAllApart (sym qs_are) (starts_apart before board 0 (set ps p new) (All-set P ps p new (keeps was) apart))

all_stopped : (n : ℕ) → AreAllApart (replicate n stopped_processor)
all_stopped zero = All-nil (λ (p : Processor). AreApart p.rows)
all_stopped (suc n) = All-cons (λ (p : Processor). AreApart p.rows) stopped_processor (replicate n stopped_processor) start_apart (all_stopped n)

-- the processors at boot
pub apart_at_boot : (first : Processor) (n : ℕ) → AreApart first.rows → AreAllApart (first ∷ replicate n stopped_processor)
apart_at_boot first n apart =
    All-cons (λ (p : Processor). AreApart p.rows) first (replicate n stopped_processor) apart (all_stopped n)
