use Rattle.std.proofs.Common.{◌≡◌, ◌≢◌, ◌∙◌, refl, sym, ap, ap₂, subst, ℕ, suc, ◌+◌, ◌≤◌, Bool, true, false, cond, eqb, eqb-true, ne_eqb, List, [], ◌∷◌, ◌++◌, length, take, drop, replicate, append_assoc, append-nil, length-append, arith}
use Rattle.std.proofs.lemmas.List.{drop-drop, take-append-drop, length-take-le, length-replicate, replicate-append-replicate}
use Rattle.std.proofs.lemmas.Bool.{eqb-false}
use Rattle.std.specs.Prelude.{None, Some}
use Rattle.m161_machine.specs.declared.event.Event.{Event}
use Rattle.m161_machine.specs.declared.event.Event.TheVariants as events
use Rattle.m161_shorten.specs.Blocks.{Block, Steps, Other, step_before, blocks, events_in, steps}
use Rattle.m161_shorten.specs.Trials.{joins, joins_first}
use Rattle.m161_shorten.specs.helpers.Ranges.{leading, block_len, find_step, first_step, one_more, swapped, trials_at}
use Rattle.m161_shorten.proofs.Blocks.{by_test, blocks_step, events_in_blocks, leading_take}
use Rattle.m161_shorten.proofs.Finding.{found_step, found_within, more_none, more_some}
use Rattle.m161_shorten.proofs.Swaps.{swapped_parts}

-- A block and the next one of its processor.

abbrev pub both : List Event → ℕ → ℕ → List Event → List Event → List (List Event)
both before p n between rest = (before ++ steps p n ++ between ++ rest) ∷ (before ++ between ++ steps p n ++ rest) ∷ []

by_processor : (t : Bool) (before : List Event) (p n : ℕ) (between : List Event) (q m : ℕ) (bs : List Block) → eqb p q ≡ t →
    joins before p n between (Steps q m ∷ bs) ≡ cond t (both before p (n + m) between (events_in bs)) (joins before p n (between ++ steps q m) bs)
by_processor t before p n between q m bs e =
    ap (λ (s : Bool). cond s (both before p (n + m) between (events_in bs)) (joins before p n (between ++ steps q m) bs)) e

-- a Step of another processor is one of those between
joins_other : (before : List Event) (p n : ℕ) (between : List Event) (q : ℕ) (bs : List Block) → p ≢ q →
    joins before p n between (step_before q bs) ≡ joins before p n (between ++ events.Step q ∷ []) bs
joins_other before p n between q [] other = by_processor false before p n between q 1 [] (ne_eqb p q other)
joins_other before p n between q (Other e ∷ bs) other = by_processor false before p n between q 1 (Other e ∷ bs) (ne_eqb p q other)
joins_other before p n between q (Steps r m ∷ bs) other = by (eqb q r) refl
  where
    by : (t : Bool) → eqb q r ≡ t → joins before p n between (step_before q (Steps r m ∷ bs)) ≡ joins before p n (between ++ events.Step q ∷ []) (Steps r m ∷ bs)
    by true e =
        let same : q ≡ r = eqb-true q r e in
        let apart : eqb p r ≡ false = ne_eqb p r (λ is. other (is ∙ sym same)) in
        let count : m + 1 ≡ suc m = omega arith in
        ap (joins before p n between) (by_test true q r m bs e)
        ∙ by_processor false before p n between r (m + 1) bs apart
        ∙ ap (λ k. joins before p n (between ++ replicate k (events.Step r)) bs) count
        ∙ ap (λ xs. joins before p n xs bs) (sym (append_assoc between (events.Step r ∷ []) (steps r m)))
        ∙ ap (λ x. joins before p n (between ++ (events.Step x ∷ []) ++ steps r m) bs) (sym same)
        ∙ sym (by_processor false before p n (between ++ events.Step q ∷ []) r m bs apart)
    by false e =
        ap (joins before p n between) (by_test false q r m bs e) ∙ by_processor false before p n between q 1 (Steps r m ∷ bs) (ne_eqb p q other)

-- without a next block
pub joins_none : (before : List Event) (p n : ℕ) (between es : List Event) → find_step p es ≡ None → joins before p n between (blocks es) ≡ []
joins_none before p n between [] h = refl
joins_none before p n between (events.Key byte ∷ es) h = refl
joins_none before p n between (events.Done ∷ es) h = refl
joins_none before p n between (events.Step q ∷ es) h = by (eqb p q) refl h (λ found. joins_none before p n (between ++ events.Step q ∷ []) es found)
  where
    by : (t : Bool) → eqb p q ≡ t → cond t (Some 0) (one_more (find_step p es)) ≡ None →
        (find_step p es ≡ None → joins before p n (between ++ events.Step q ∷ []) (blocks es) ≡ []) →
        joins before p n between (blocks (events.Step q ∷ es)) ≡ []
    by true e found rest = cc
    by false e found rest =
        joins_other before p n between q (blocks es) (eqb-false p q e) ∙ rest (more_none (find_step p es) found)

-- what both are at a place k, where m Steps of p are
abbrev Both : List Event → ℕ → ℕ → List Event → List Event → ℕ → List (List Event)
Both before p n between es k =
    both before p (n + block_len (drop k es)) (between ++ take k es) (drop (k + block_len (drop k es)) es)

-- with one, k events on
pub joins_some : (before : List Event) (p n : ℕ) (between es : List Event) (k : ℕ) → find_step p es ≡ Some k →
    joins before p n between (blocks es) ≡ both before p (n + block_len (drop k es)) (between ++ take k es) (drop (k + block_len (drop k es)) es)
joins_some before p n between [] k h = cc
joins_some before p n between (events.Key byte ∷ es) k h = cc
joins_some before p n between (events.Done ∷ es) k h = cc
joins_some before p n between (events.Step q ∷ es) k h = by (eqb p q) refl h (λ j found. joins_some before p n (between ++ events.Step q ∷ []) es j found)
  where
    by : (t : Bool) → eqb p q ≡ t → cond t (Some 0) (one_more (find_step p es)) ≡ Some k →
        ((j : ℕ) → find_step p es ≡ Some j → joins before p n (between ++ events.Step q ∷ []) (blocks es) ≡ Both before p n (between ++ events.Step q ∷ []) es j) →
        joins before p n between (blocks (events.Step q ∷ es)) ≡ Both before p n between (events.Step q ∷ es) k
    by true e found rest =
        let Goal : ℕ → Type 0 = λ j. joins before p n between (blocks (events.Step q ∷ es)) ≡ Both before p n between (events.Step q ∷ es) j in
        let first : 0 ≡ k = cc in
        let m = leading q es in
        let count : 0 + suc m ≡ suc m = omega arith in
        let at : Goal 0 = ap (joins before p n between) (blocks_step q es)
        ∙ by_processor true before p n between q (suc m) (blocks (drop m es)) e
        ∙ ap (both before p (n + suc m) between) (events_in_blocks (drop m es))
        ∙ ap (λ xs. both before p (n + suc m) xs (drop m es)) (sym (append-nil between))
        ∙ ap (λ j. both before p (n + suc m) (between ++ []) (drop j (events.Step q ∷ es))) (sym count) in
        subst Goal first at
    by false e found rest =
        let Goal : ℕ → Type 0 = λ j. joins before p n between (blocks (events.Step q ∷ es)) ≡ Both before p n between (events.Step q ∷ es) j in
        let more = more_some (find_step p es) k found in
        let j = more.0 in
        let m = block_len (drop j es) in
        let count : suc (j + m) ≡ suc j + m = omega arith in
        let at : Goal (suc j) = joins_other before p n between q (blocks es) (eqb-false p q e)
        ∙ rest j more.1
        ∙ ap (λ xs. both before p (n + m) xs (drop (j + m) es)) (append_assoc between (events.Step q ∷ []) (take j es))
        ∙ ap (λ i. both before p (n + m) (between ++ (events.Step q ∷ take j es)) (drop i (events.Step q ∷ es))) count in
        subst Goal (sym more.2) at

-- the first events of a list that begins with a Step
block_steps : (p : ℕ) (es rest : List Event) → es ≡ events.Step p ∷ rest → take (block_len es) es ≡ steps p (block_len es)
block_steps p es rest is =
    let Q : List Event → Type 0 = λ xs. take (block_len xs) xs ≡ steps p (block_len xs) in
    subst Q (sym is) (ap (λ xs. events.Step p ∷ xs) (leading_take p rest))

-- the trials at a block of Steps: no other such block is near
pub pair_none : (es : List Event) (start p b : ℕ) (rest : List Event) → drop start es ≡ events.Step p ∷ rest → b ≡ start + block_len (drop start es) →
    find_step p (drop b es) ≡ None → trials_at start es ≡ []
pair_none es start p b rest is at_b none =
    let n = block_len (drop start es) in
    let first : blocks (drop start es) ≡ Steps p n ∷ blocks (drop b es) =
    ap blocks is ∙ blocks_step p rest ∙ ap (λ xs. Steps p (block_len xs) ∷ blocks (drop (block_len xs) xs)) (sym is)
    ∙ ap (λ xs. Steps p n ∷ blocks xs) (drop-drop n start es ∙ ap (λ k. drop k es) (sym at_b)) in
    ap (joins_first (take start es)) first ∙ joins_none (take start es) p n [] (drop b es) none

-- there is one
pub pair_some : (es : List Event) (start p b c d k : ℕ) (rest : List Event) → start ≤ length es → drop start es ≡ events.Step p ∷ rest →
    b ≡ start + block_len (drop start es) → find_step p (drop b es) ≡ Some k → c ≡ b + k → d ≡ c + block_len (drop c es) →
    trials_at start es ≡ swapped b c d es ∷ swapped start b c es ∷ []
pair_some es start p b c d k rest within is at_b found at_c at_d =
    let n = block_len (drop start es) in
    let to_b : drop n (drop start es) ≡ drop b es = drop-drop n start es ∙ ap (λ j. drop j es) (sym at_b) in
    let to_c : drop k (drop b es) ≡ drop c es = drop-drop k b es ∙ ap (λ j. drop j es) (sym at_c) in
    let m = block_len (drop c es) in
    let to_d : drop m (drop c es) ≡ drop d es = drop-drop m c es ∙ ap (λ j. drop j es) (sym at_d) in
    let first : blocks (drop start es) ≡ Steps p n ∷ blocks (drop b es) =
    ap blocks is ∙ blocks_step p rest ∙ ap (λ xs. Steps p (block_len xs) ∷ blocks (drop (block_len xs) xs)) (sym is)
    ∙ ap (λ xs. Steps p n ∷ blocks xs) to_b in
    let ws = take start es in
    let xs = steps p n in
    let ys = take k (drop b es) in
    let vs = steps p m in
    let zs = drop d es in
    let next = found_step p (drop b es) k found in
    let second : drop c es ≡ events.Step p ∷ next.0 = sym to_c ∙ next.1 in
    let rest_d : drop c es ≡ vs ++ zs = sym (take-append-drop m (drop c es)) ∙ ap₂ (λ u v. u ++ v) (block_steps p (drop c es) next.0 second) to_d in
    let rest_c : drop b es ≡ ys ++ (vs ++ zs) = sym (take-append-drop k (drop b es)) ∙ ap (λ u. ys ++ u) (to_c ∙ rest_d) in
    let rest_b : drop start es ≡ xs ++ (ys ++ (vs ++ zs)) = sym (take-append-drop n (drop start es)) ∙ ap₂ (λ u v. u ++ v) (block_steps p (drop start es) rest is) (to_b ∙ rest_c) in
    let whole : es ≡ ws ++ (xs ++ (ys ++ (vs ++ zs))) = sym (take-append-drop start es) ∙ ap (λ u. ws ++ u) rest_b in
    let long_w : length ws ≡ start = length-take-le start es within in
    let long_x : length xs ≡ n = length-replicate n (events.Step p) in
    let near = found_within p (drop b es) k found in
    let long_y : length ys ≡ k = length-take-le k (drop b es) (omega arith) in
    let long_v : length vs ≡ m = length-replicate m (events.Step p) in
    let long_wx = length-append ws xs in
    let sum : steps p (n + m) ≡ xs ++ vs = sym (replicate-append-replicate n m (events.Step p)) in
    let one : swapped b c d es ≡ ws ++ steps p (n + m) ++ ys ++ zs =
    swapped_parts (ws ++ xs) ys vs zs es b c d (whole ∙ sym (append_assoc ws xs (ys ++ (vs ++ zs)))) (omega arith) (omega arith) (omega arith)
    ∙ ap (λ u. u ++ ys ++ zs) (append_assoc ws xs vs ∙ ap (λ u. ws ++ u) (sym sum)) in
    let other : swapped start b c es ≡ ws ++ ys ++ steps p (n + m) ++ zs =
    swapped_parts ws xs ys (vs ++ zs) es start b c whole (omega arith) (omega arith) (omega arith)
    ∙ sym (append_assoc (ws ++ ys ++ xs) vs zs)
    ∙ ap (λ u. u ++ zs) (append_assoc (ws ++ ys) xs vs ∙ ap (λ u. ws ++ ys ++ u) (sym sum)) in
    let behind : drop (k + m) (drop b es) ≡ zs = sym (drop-drop m k (drop b es)) ∙ ap (drop m) to_c ∙ to_d in
    ap (joins_first ws) first ∙ joins_some ws p n [] (drop b es) k found
    ∙ ap (λ u. both ws p (n + block_len u) ys (drop (k + block_len u) (drop b es))) to_c
    ∙ ap (both ws p (n + m) ys) behind
    ∙ ap₂ (λ u v. u ∷ v ∷ []) (sym one) (sym other)

-- a list that begins with a Step, and one that doesn't
pub begins_step : (es : List Event) (p : ℕ) → first_step es ≡ Some p → (rest : List Event) × (es ≡ events.Step p ∷ rest)
begins_step [] p h = cc
begins_step (events.Step q ∷ es) p h = (es, cc)
begins_step (events.Key byte ∷ es) p h = cc
begins_step (events.Done ∷ es) p h = cc

pub begins_other : (before es : List Event) → first_step es ≡ None → joins_first before (blocks es) ≡ []
begins_other before [] h = refl
begins_other before (events.Step q ∷ es) h = cc
begins_other before (events.Key byte ∷ es) h = refl
begins_other before (events.Done ∷ es) h = refl
