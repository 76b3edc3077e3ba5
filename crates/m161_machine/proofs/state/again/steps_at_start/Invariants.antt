use Rattle.std.proofs.Common.{◌≡◌, ◌-◌, ◌≤◌, length, take, replicate}
use Rattle.m161_machine.specs.declared.event.Event.TheVariants.{Step}
use Rattle.m161_machine.specs.History.{events_of}
use Rattle.m161_machine.proofs.state.again.steps_at_start.Given as goal

abbrev pub invariant-loop-number : goal.invariant-loop-number
invariant-loop-number l = (l.number ≤ length l.entries)
    × (events_of (take l.number l.entries) ≡ replicate l.number (Step l.p))

abbrev pub decreases-loop-number : goal.decreases-loop-number
decreases-loop-number l = length l.entries - l.number
