use Rattle.m161_judge.proofs.Walking.{Walking}
use Rattle.m161_judge.proofs.first.First.make.Given as goal

-- the events so far are made, and the states before this one were looked at
abbrev pub invariant-loop-made : goal.invariant-loop-made
invariant-loop-made g l = Walking l.goal l.fn.core.state l.events l.made l.left l.core.state l.seen
