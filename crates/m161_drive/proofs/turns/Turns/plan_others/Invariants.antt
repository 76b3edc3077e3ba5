use Rattle.std.proofs.Common.{◌≡◌, ◌-◌, ◌≤◌, true, length, take}
use Rattle.m161_drive.specs.declared.orders.OrderState.TheVariants.{InTurns}
use Rattle.m161_drive.specs.Ready.{is_ready}
use Rattle.m161_drive.specs.helpers.Drive.{Plans, gone_on}
use Rattle.m161_drive.proofs.turns.Turns.plan_others.Given as goal

-- the plan so far, the turn behind it, and the processor of its last Step
abbrev pub invariant-loop-planned : goal.invariant-loop-planned
invariant-loop-planned g l = Plans (InTurns l.self) l.p l.core.state (take l.planned l.places) l.last
    × (InTurns l.turns ≡ gone_on l.planned (InTurns l.self)) × (is_ready l.core.state l.last ≡ true)
    × (length l.places ≡ length l.fn.places) × (l.planned ≤ l.most)

abbrev pub decreases-loop-planned : goal.decreases-loop-planned
decreases-loop-planned g l = l.most - l.planned
