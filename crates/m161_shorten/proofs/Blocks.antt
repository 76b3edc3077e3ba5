use Rattle.std.proofs.Common.{◌≡◌, ◌≢◌, ◌∙◌, refl, sym, ap, subst, ℕ, suc, ◌+◌, ◌≤◌, Bool, true, false, cond, eqb, eqb-true, eq-eqb, ne_eqb, List, [], ◌∷◌, ◌++◌, length, take, drop, replicate, arith}
use Rattle.std.proofs.lemmas.Bool.{eqb-false}
use Rattle.std.proofs.lemmas.Grind.{flat_map-append}
use Rattle.m161_machine.specs.declared.event.Event.{Event}
use Rattle.m161_machine.specs.declared.event.Event.TheVariants as events
use Rattle.m161_shorten.specs.Blocks.{Block, Steps, Other, step_before, blocks, events_in, steps, block_events}
use Rattle.m161_shorten.specs.helpers.Ranges.{leading, block_len}

-- Blocks and their events.

pub by_test : (t : Bool) (p q n : ℕ) (bs : List Block) → eqb p q ≡ t → step_before p (Steps q n ∷ bs) ≡ cond t (Steps q (n + 1) ∷ bs) (Steps p 1 ∷ Steps q n ∷ bs)
by_test t p q n bs e = ap (λ (s : Bool). cond s (Steps q (n + 1) ∷ bs) (Steps p 1 ∷ Steps q n ∷ bs)) e

pub onto : (p n : ℕ) (bs : List Block) → step_before p (Steps p n ∷ bs) ≡ Steps p (n + 1) ∷ bs
onto p n bs = by_test true p p n bs (eq-eqb p p refl)

pub beside : (p q n : ℕ) (bs : List Block) → p ≢ q → step_before p (Steps q n ∷ bs) ≡ Steps p 1 ∷ Steps q n ∷ bs
beside p q n bs other = by_test false p q n bs (ne_eqb p q other)

-- the first block of events that begin with a Step
pub blocks_step : (p : ℕ) (es : List Event) → blocks (events.Step p ∷ es) ≡ Steps p (suc (leading p es)) ∷ blocks (drop (leading p es) es)
blocks_step p [] = refl
blocks_step p (events.Key byte ∷ es) = refl
blocks_step p (events.Done ∷ es) = refl
blocks_step p (events.Step q ∷ es) = by (eqb p q) refl (blocks_step p es) (blocks_step q es)
  where
    by : (t : Bool) → eqb p q ≡ t → blocks (events.Step p ∷ es) ≡ Steps p (suc (leading p es)) ∷ blocks (drop (leading p es) es) →
        blocks (events.Step q ∷ es) ≡ Steps q (suc (leading q es)) ∷ blocks (drop (leading q es) es) →
        step_before p (blocks (events.Step q ∷ es)) ≡ Steps p (suc (cond t (suc (leading p es)) 0)) ∷ blocks (drop (cond t (suc (leading p es)) 0) (events.Step q ∷ es))
    by true e same_first first =
        let same : p ≡ q = eqb-true p q e in
        let count : suc (leading p es) + 1 ≡ suc (suc (leading p es)) = omega arith in
        let rest = blocks (drop (leading p es) es) in
        let Q : ℕ → Type 0 = λ x. step_before p (blocks (events.Step x ∷ es)) ≡ Steps p (suc (suc (leading p es))) ∷ rest in
        subst Q same (ap (step_before p) same_first ∙ onto p (suc (leading p es)) rest ∙ ap (λ k. Steps p k ∷ rest) count)
    by false e same_first first =
        ap (step_before p) first ∙ beside p q _ _ (eqb-false p q e) ∙ ap (λ bs. Steps p 1 ∷ bs) (sym first)

-- a Step before blocks is one before their events
events_in_step : (p : ℕ) (bs : List Block) → events_in (step_before p bs) ≡ events.Step p ∷ events_in bs
events_in_step p [] = refl
events_in_step p (Other e ∷ bs) = refl
events_in_step p (Steps q n ∷ bs) = by (eqb p q) refl
  where
    by : (t : Bool) → eqb p q ≡ t → events_in (step_before p (Steps q n ∷ bs)) ≡ events.Step p ∷ events_in (Steps q n ∷ bs)
    by true e =
        let count : n + 1 ≡ suc n = omega arith in
        ap events_in (by_test true p q n bs e) ∙ ap (λ k. replicate k (events.Step q) ++ events_in bs) count
        ∙ ap (λ x. events.Step x ∷ events_in (Steps q n ∷ bs)) (sym (eqb-true p q e))
    by false e = ap events_in (by_test false p q n bs e)

-- the blocks of events have these events
pub events_in_blocks : (es : List Event) → events_in (blocks es) ≡ es
events_in_blocks [] = refl
events_in_blocks (events.Step p ∷ es) = events_in_step p (blocks es) ∙ ap (λ xs. events.Step p ∷ xs) (events_in_blocks es)
events_in_blocks (events.Key byte ∷ es) = ap (λ xs. events.Key byte ∷ xs) (events_in_blocks es)
events_in_blocks (events.Done ∷ es) = ap (λ xs. events.Done ∷ xs) (events_in_blocks es)

pub events_in_append : (bs cs : List Block) → events_in (bs ++ cs) ≡ events_in bs ++ events_in cs
events_in_append bs cs = flat_map-append block_events bs cs

-- the leading Steps
pub leading_take : (p : ℕ) (es : List Event) → take (leading p es) es ≡ steps p (leading p es)
leading_take p [] = refl
leading_take p (events.Key byte ∷ es) = refl
leading_take p (events.Done ∷ es) = refl
leading_take p (events.Step q ∷ es) = by (eqb p q) refl (leading_take p es)
  where
    by : (t : Bool) → eqb p q ≡ t → take (leading p es) es ≡ steps p (leading p es) → take (cond t (suc (leading p es)) 0) (events.Step q ∷ es) ≡ steps p (cond t (suc (leading p es)) 0)
    by true e rest = ap (λ x. events.Step x ∷ take (leading p es) es) (sym (eqb-true p q e)) ∙ ap (λ xs. events.Step p ∷ xs) rest
    by false e rest = refl

pub leading_within : (p : ℕ) (es : List Event) → leading p es ≤ length es
leading_within p [] = omega arith
leading_within p (events.Key byte ∷ es) = omega arith
leading_within p (events.Done ∷ es) = omega arith
leading_within p (events.Step q ∷ es) = by (eqb p q) (leading_within p es)
  where
    by : (t : Bool) → leading p es ≤ length es → cond t (suc (leading p es)) 0 ≤ suc (length es)
    by true rest = omega arith
    by false rest = omega arith

pub block_len_within : (es : List Event) → block_len es ≤ length es
block_len_within [] = omega arith
block_len_within (events.Step p ∷ es) = omega (arith, leading_within p es)
block_len_within (events.Key byte ∷ es) = omega arith
block_len_within (events.Done ∷ es) = omega arith
