use Rattle.m161_machine.specs.State.{State}
use Rattle.m161_judge.specs.Memory.{Reaching}
use Rattle.m161_judge.proofs.reach.reach_from.Given as goal

-- the events so far are made, and reached nothing
abbrev pub invariant-loop-place : goal.invariant-loop-place
invariant-loop-place g l =
    (s : State) → Reaching l.never s l.events l.from l.fn.core.state → Reaching l.never s l.events l.place l.core.state
