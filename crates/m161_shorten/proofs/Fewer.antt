use Rattle.std.proofs.Common.{◌≡◌, ◌∙◌, refl, sym, ap, subst, ℕ, zero, suc, ◌+◌, ◌≤◌, Bool, true, false, cond, eqb, eq-eqb, List, [], ◌∷◌, ◌++◌, length, take, drop, length-append, arith}
use Rattle.std.proofs.lemmas.List.{length-replicate, take-append-drop}
use Rattle.std.specs.List.{AllByRecursion}
use Rattle.m161_machine.specs.declared.event.Event.{Event}
use Rattle.m161_machine.specs.declared.event.Event.TheVariants as events
use Rattle.m161_shorten.specs.Blocks.{Block, Steps, Other, step_before, blocks, events_in, steps}
use Rattle.m161_shorten.specs.Trials.{joins, joins_first, trials}
use Rattle.m161_shorten.specs.helpers.Ranges.{leading}
use Rattle.m161_shorten.proofs.Blocks.{by_test, blocks_step, events_in_append, events_in_blocks}

-- How many blocks and events lists have.

-- the first event is a Step of p
starts : ℕ → List Event → Bool
starts p [] = false
starts p (events.Step q ∷ es) = eqb p q
starts p (events.Key byte ∷ es) = false
starts p (events.Done ∷ es) = false

onto_count : (t : Bool) (p : ℕ) (es : List Event) → starts p es ≡ t → length (blocks (events.Step p ∷ es)) ≡ cond t (length (blocks es)) (suc (length (blocks es)))
unfolding starts
onto_count true p [] h = cc
onto_count true p (events.Key byte ∷ es) h = cc
onto_count true p (events.Done ∷ es) h = cc
onto_count false p [] h = refl
onto_count false p (events.Key byte ∷ es) h = refl
onto_count false p (events.Done ∷ es) h = refl
onto_count true p (events.Step q ∷ es) h =
    ap (λ bs. length (step_before p bs)) (blocks_step q es)
    ∙ ap length (by_test true p q (suc (leading q es)) (blocks (drop (leading q es) es)) h)
    ∙ sym (ap length (blocks_step q es))
onto_count false p (events.Step q ∷ es) h =
    ap (λ bs. length (step_before p bs)) (blocks_step q es)
    ∙ ap length (by_test false p q (suc (leading q es)) (blocks (drop (leading q es) es)) h)
    ∙ ap suc (sym (ap length (blocks_step q es)))

count_step : (p : ℕ) (es : List Event) → length (blocks (events.Step p ∷ es)) ≡ cond (starts p es) (length (blocks es)) (suc (length (blocks es)))
count_step p es = onto_count (starts p es) p es refl

starts_append : (p : ℕ) (x : Event) (xs ys : List Event) → starts p (x ∷ xs ++ ys) ≡ starts p (x ∷ xs)
unfolding starts
starts_append p (events.Step q) xs ys = refl
starts_append p (events.Key byte) xs ys = refl
starts_append p events.Done xs ys = refl

cond_most : (t : Bool) (n : ℕ) → cond t n (suc n) ≤ suc n
cond_most true n = omega arith
cond_most false n = omega arith

cond_least : (t : Bool) (n : ℕ) → n ≤ cond t n (suc n)
cond_least true n = omega arith
cond_least false n = omega arith

cond_sum : (t : Bool) (k n m : ℕ) → k ≤ n + m → cond t k (suc k) ≤ cond t n (suc n) + m
cond_sum true k n m h = h
cond_sum false k n m h = omega arith

cond_under : (t : Bool) (k n : ℕ) → k ≤ n → cond t k (suc k) ≤ cond t n (suc n)
cond_under true k n h = h
cond_under false k n h = omega arith

-- a Step makes one block more at most
pub step_most : (p : ℕ) (es : List Event) → length (blocks (events.Step p ∷ es)) ≤ suc (length (blocks es))
step_most p es = let most = cond_most (starts p es) (length (blocks es)) in let count = count_step p es in omega (arith, most, count)

-- two lists have no more blocks together
pub blocks_append : (xs ys : List Event) → length (blocks (xs ++ ys)) ≤ length (blocks xs) + length (blocks ys)
blocks_append [] ys = omega arith
blocks_append (events.Key byte ∷ xs) ys = omega (arith, blocks_append xs ys)
blocks_append (events.Done ∷ xs) ys = omega (arith, blocks_append xs ys)
blocks_append (events.Step p ∷ []) ys = let most = step_most p ys in omega (arith, most)
blocks_append (events.Step p ∷ x ∷ xs) ys =
    let rest : length (blocks (x ∷ xs ++ ys)) ≤ length (blocks (x ∷ xs)) + length (blocks ys) = blocks_append (x ∷ xs) ys in
    let whole = count_step p (x ∷ xs ++ ys) ∙ ap (λ t. cond t (length (blocks (x ∷ xs ++ ys))) (suc (length (blocks (x ∷ xs ++ ys))))) (starts_append p x xs ys) in
    let part = count_step p (x ∷ xs) in
    let sum = cond_sum (starts p (x ∷ xs)) (length (blocks (x ∷ xs ++ ys))) (length (blocks (x ∷ xs))) (length (blocks ys)) rest in
    omega (arith, whole, part, sum)

-- the front of a list has no more blocks
pub blocks_front : (xs ys : List Event) → length (blocks xs) ≤ length (blocks (xs ++ ys))
blocks_front [] ys = omega arith
blocks_front (events.Key byte ∷ xs) ys = omega (arith, blocks_front xs ys)
blocks_front (events.Done ∷ xs) ys = omega (arith, blocks_front xs ys)
blocks_front (events.Step p ∷ []) ys = let some = ap length (blocks_step p ys) in omega (arith, some)
blocks_front (events.Step p ∷ x ∷ xs) ys =
    let rest : length (blocks (x ∷ xs)) ≤ length (blocks (x ∷ xs ++ ys)) = blocks_front (x ∷ xs) ys in
    let whole = count_step p (x ∷ xs ++ ys) ∙ ap (λ t. cond t (length (blocks (x ∷ xs ++ ys))) (suc (length (blocks (x ∷ xs ++ ys))))) (starts_append p x xs ys) in
    let part = count_step p (x ∷ xs) in
    let under = cond_under (starts p (x ∷ xs)) (length (blocks (x ∷ xs))) (length (blocks (x ∷ xs ++ ys))) rest in
    omega (arith, whole, part, under)

pub blocks_take : (n : ℕ) (es : List Event) → length (blocks (take n es)) ≤ length (blocks es)
blocks_take n es =
    let front = blocks_front (take n es) (drop n es) in
    subst (λ xs. length (blocks (take n es)) ≤ length (blocks xs)) (take-append-drop n es) front

same_start : (p n : ℕ) → starts p (steps p (suc n)) ≡ true
unfolding starts
same_start p n = eq-eqb p p refl

-- Steps of one processor are one block
pub blocks_steps : (p n : ℕ) → length (blocks (steps p n)) ≤ 1
blocks_steps p zero = omega arith
blocks_steps p (suc zero) = omega arith
blocks_steps p (suc (suc n)) =
    let first = count_step p (steps p (suc n)) in
    let same : starts p (steps p (suc n)) ≡ true = same_start p n in
    let count : cond (starts p (steps p (suc n))) (length (blocks (steps p (suc n)))) (suc (length (blocks (steps p (suc n))))) ≡ length (blocks (steps p (suc n))) =
    ap (λ t. cond t (length (blocks (steps p (suc n)))) (suc (length (blocks (steps p (suc n)))))) same in
    omega (arith, first, count, blocks_steps p (suc n))

-- blocks, joined and parted again, are no more
pub blocks_joined : (bs : List Block) → length (blocks (events_in bs)) ≤ length bs
blocks_joined [] = omega arith
blocks_joined (Steps p n ∷ bs) =
    let both = blocks_append (steps p n) (events_in bs) in
    let one = blocks_steps p n in
    omega (arith, both, one, blocks_joined bs)
blocks_joined (Other (events.Key byte) ∷ bs) = omega (arith, blocks_joined bs)
blocks_joined (Other events.Done ∷ bs) = omega (arith, blocks_joined bs)
blocks_joined (Other (events.Step p) ∷ bs) = let most = step_most p (events_in bs) in omega (arith, most, blocks_joined bs)

-- a list of so many events, with no more blocks than this
abbrev pub IsLike : ℕ → ℕ → List Event → Type 0
IsLike events most es = (length es ≡ events) × (length (blocks es) ≤ most)

joins_like : (before : List Event) (p n : ℕ) (between : List Event) (bs : List Block) (whole most : ℕ) →
    whole ≡ length before + n + length between + length (events_in bs) →
    length (blocks before) + 1 + length (blocks between) + length bs ≤ most →
    AllByRecursion (IsLike whole most) (joins before p n between bs)
joins_like before p n between [] whole most long few = tt
joins_like before p n between (Other e ∷ bs) whole most long few = tt
joins_like before p n between (Steps q m ∷ bs) whole most long few = by (eqb p q) (λ l f. joins_like before p n (between ++ steps q m) bs whole most l f)
  where
    by : (t : Bool) →
        (whole ≡ length before + n + length (between ++ steps q m) + length (events_in bs) → length (blocks before) + 1 + length (blocks (between ++ steps q m)) + length bs ≤ most → AllByRecursion (IsLike whole most) (joins before p n (between ++ steps q m) bs)) →
        AllByRecursion (IsLike whole most) (cond t ((before ++ steps p (n + m) ++ between ++ events_in bs) ∷ (before ++ between ++ steps p (n + m) ++ events_in bs) ∷ []) (joins before p n (between ++ steps q m) bs))
    by true rest =
        let count = length-append (steps q m) (events_in bs) in
        let long_q : length (steps q m) ≡ m = length-replicate m (events.Step q) in
        let long_p : length (steps p (n + m)) ≡ n + m = length-replicate (n + m) (events.Step p) in
        let few_p = blocks_steps p (n + m) in
        let few_bs = blocks_joined bs in
        let a1 = length-append before (steps p (n + m)) in
        let a2 = length-append (before ++ steps p (n + m)) between in
        let a3 = length-append (before ++ steps p (n + m) ++ between) (events_in bs) in
        let b1 = length-append before between in
        let b2 = length-append (before ++ between) (steps p (n + m)) in
        let b3 = length-append (before ++ between ++ steps p (n + m)) (events_in bs) in
        let c1 = blocks_append before (steps p (n + m)) in
        let c2 = blocks_append (before ++ steps p (n + m)) between in
        let c3 = blocks_append (before ++ steps p (n + m) ++ between) (events_in bs) in
        let d1 = blocks_append before between in
        let d2 = blocks_append (before ++ between) (steps p (n + m)) in
        let d3 = blocks_append (before ++ between ++ steps p (n + m)) (events_in bs) in
        let l1 : length (before ++ steps p (n + m) ++ between ++ events_in bs) ≡ whole = omega (arith, long, count, long_q, long_p, a1, a2, a3) in
        let l2 : length (before ++ between ++ steps p (n + m) ++ events_in bs) ≡ whole = omega (arith, long, count, long_q, long_p, b1, b2, b3) in
        let f1 : length (blocks (before ++ steps p (n + m) ++ between ++ events_in bs)) ≤ most = omega (arith, few, few_p, few_bs, c1, c2, c3) in
        let f2 : length (blocks (before ++ between ++ steps p (n + m) ++ events_in bs)) ≤ most = omega (arith, few, few_p, few_bs, d1, d2, d3) in
        ((l1, f1), ((l2, f2), tt))
    by false rest =
        let count = length-append (steps q m) (events_in bs) in
        let count_b = length-append between (steps q m) in
        let some = blocks_append between (steps q m) in
        let one = blocks_steps q m in
        rest (omega (arith, long, count, count_b)) (omega (arith, few, some, one))

first_like : (before : List Event) (bs : List Block) (whole most : ℕ) → whole ≡ length before + length (events_in bs) →
    length (blocks before) + length bs ≤ most → AllByRecursion (IsLike whole most) (joins_first before bs)
first_like before [] whole most long few = tt
first_like before (Other e ∷ bs) whole most long few = tt
first_like before (Steps p n ∷ bs) whole most long few =
    let count = length-append (steps p n) (events_in bs) in
    let long_p : length (steps p n) ≡ n = length-replicate n (events.Step p) in
    joins_like before p n [] bs whole most (omega (arith, long, count, long_p)) (omega (arith, few))

-- every trial has as many events as the list, and no more blocks
pub trials_like : (i : ℕ) (es : List Event) → AllByRecursion (IsLike (length es) (length (blocks es))) (trials i es)
trials_like i es =
    let bs = blocks es in
    let parts = take-append-drop i bs in
    let long = ap length (sym (events_in_blocks es) ∙ ap events_in (sym parts) ∙ events_in_append (take i bs) (drop i bs)) ∙ length-append (events_in (take i bs)) (events_in (drop i bs)) in
    let count = ap length (sym parts) ∙ length-append (take i bs) (drop i bs) in
    let few = blocks_joined (take i bs) in
    first_like (events_in (take i bs)) (drop i bs) (length es) (length bs) long (omega (arith, count, few))
