use Rattle.std.proofs.Common.{◌≡◌, ◌∙◌, refl, sym, ap, subst, ℕ, suc, ◌+◌, ◌≤◌, ◌<◌, Bool, true, false, cond, eqb, List, [], ◌∷◌, ◌++◌, length, take, drop, append-nil, length-drop, arith}
use Rattle.std.proofs.lemmas.List.{drop-drop}
use Rattle.std.proofs.Math.Seq.{take-add}
use Rattle.m161_machine.specs.declared.event.Event.{Event}
use Rattle.m161_machine.specs.declared.event.Event.TheVariants as events
use Rattle.m161_shorten.specs.Blocks.{Block, Steps, Other, step_before, blocks, events_in, steps}
use Rattle.std.specs.Prelude.{nat_lt}
use Rattle.std.proofs.lemmas.Bool.Decides.{nat_tests}
use Rattle.m161_shorten.specs.Trials.{trials, joins_first}
use Rattle.m161_shorten.specs.helpers.Ranges.{leading, block_len, IsStart, trials_at}
use Rattle.m161_shorten.proofs.Blocks.{blocks_step, events_in_append, leading_take, block_len_within}

-- Where blocks begin.

-- without the first block
pub drop_block : (es : List Event) → drop 1 (blocks es) ≡ blocks (drop (block_len es) es)
drop_block [] = refl
drop_block (events.Step p ∷ es) = ap (drop 1) (blocks_step p es)
drop_block (events.Key byte ∷ es) = refl
drop_block (events.Done ∷ es) = refl

pub take_block : (es : List Event) → events_in (take 1 (blocks es)) ≡ take (block_len es) es
take_block [] = refl
take_block (events.Step p ∷ es) =
    ap (λ bs. events_in (take 1 bs)) (blocks_step p es) ∙ append-nil (steps p (suc (leading p es)))
    ∙ ap (λ xs. events.Step p ∷ xs) (sym (leading_take p es))
take_block (events.Key byte ∷ es) = refl
take_block (events.Done ∷ es) = refl

pub start_first : (es : List Event) → IsStart 0 es 0
start_first es = record { within = omega arith; before = refl; behind = refl }

pub start_more : (i : ℕ) (es : List Event) (start : ℕ) → IsStart i es start → IsStart (i + 1) es (start + block_len (drop start es))
start_more i es start at =
    let rest = drop start es in
    let bs = blocks es in
    record {
      within = let few = block_len_within rest in let long = length-drop start es in omega (arith, few, long, at.within);
      before =
          ap events_in (take-add i 1 bs) ∙ events_in_append (take i bs) (take 1 (drop i bs))
          ∙ ap (λ xs. xs ++ events_in (take 1 (drop i bs))) at.before
          ∙ ap (λ xs. take start es ++ events_in (take 1 xs)) at.behind
          ∙ ap (λ xs. take start es ++ xs) (take_block rest)
          ∙ sym (take-add start (block_len rest) es);
      behind = sym (drop-drop 1 i bs) ∙ ap (drop 1) at.behind ∙ drop_block rest ∙ ap blocks (drop-drop (block_len rest) start es);
    }

-- the trials at a block are those at its start
pub trials_start : (i : ℕ) (es : List Event) (start : ℕ) → IsStart i es start → trials i es ≡ trials_at start es
trials_start i es start at = ap (λ xs. joins_first xs (drop i (blocks es))) at.before ∙ ap (joins_first (take start es)) at.behind

-- the next start, where the list stays
pub start_next : (i : ℕ) (es fs gs : List Event) (start n : ℕ) → IsStart i es start → fs ≡ es → gs ≡ fs → n ≡ start + block_len (drop start gs) → IsStart (i + 1) fs n
start_next i es fs gs start n at stays same is =
    let end : n ≡ start + block_len (drop start es) = is ∙ ap (λ xs. start + block_len (drop start xs)) (same ∙ stays) in
    subst (λ xs. IsStart (i + 1) xs n) (sym stays) (subst (λ k. IsStart (i + 1) es k) (sym end) (start_more i es start at))

blocks_some : (es : List Event) → 0 < length es → 0 < length (blocks es)
blocks_some [] some = absurd (omega arith)
blocks_some (events.Step p ∷ es) some = let long = ap length (blocks_step p es) in omega (arith, long)
blocks_some (events.Key byte ∷ es) some = omega arith
blocks_some (events.Done ∷ es) some = omega arith

blocks_none : (es : List Event) → length es ≤ 0 → length (blocks es) ≤ 0
blocks_none [] none = omega arith
blocks_none (e ∷ es) none = absurd (omega arith)

-- there is a block where the list hasn't ended
pub has_block : (i : ℕ) (es : List Event) (start n : ℕ) → IsStart i es start → n ≡ length es → nat_lt start n ≡ nat_lt i (length (blocks es))
has_block i es start n at whole =
    let left = length-drop start es in
    let left_blocks = length-drop i (blocks es) in
    let same = ap length at.behind in
    let some : start < n → i < length (blocks es) = λ h. let one = blocks_some (drop start es) (omega arith) in omega arith in
    let none : n ≤ start → length (blocks es) ≤ i = λ h. let no = blocks_none (drop start es) (omega arith) in omega arith in
    grind (arith, nat_tests)

-- no more blocks than events
pub blocks_few : (es : List Event) → length (blocks es) ≤ length es
blocks_few [] = omega arith
blocks_few (events.Key byte ∷ es) = omega (arith, blocks_few es)
blocks_few (events.Done ∷ es) = omega (arith, blocks_few es)
blocks_few (events.Step p ∷ es) = few (blocks es) (blocks_few es)
  where
    few : (bs : List Block) → length bs ≤ length es → length (step_before p bs) ≤ suc (length es)
    few [] h = omega arith
    few (Other e ∷ bs) h = omega arith
    few (Steps q n ∷ bs) h = by (eqb p q)
      where
        by : (t : Bool) → length (cond t (Steps q (n + 1) ∷ bs) (Steps p 1 ∷ Steps q n ∷ bs)) ≤ suc (length es)
        by true = omega arith
        by false = omega arith
