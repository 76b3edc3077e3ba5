use Rattle.std.proofs.Common.{◌≡◌, ℕ, ◌≤◌, length, take}
use Rattle.m161_drive.specs.declared.orders.OrderState.TheVariants.{AtRandom}
use Rattle.m161_drive.specs.helpers.Drive.{Plans, gone_on}
use Rattle.m161_drive.proofs.orders.plan_by_words.Given as goal

-- the plan so far, and the words behind it
abbrev pub invariant-loop-place : goal.invariant-loop-place
invariant-loop-place g l = ((q : ℕ) × Plans (AtRandom l.generator) l.p l.core.state (take l.place l.places) q)
    × (AtRandom l.words ≡ gone_on l.place (AtRandom l.generator))
    × (length l.places ≡ length l.fn.places)
