use Rattle.m161_reach.specs.Reach.{IsLearnt, question_of}
use Rattle.m161_reach.proofs.Knowing.{left}
use Rattle.m161_reach.proofs.whole.explore_machine_with.Given as goal

-- what is known is read
abbrev pub invariant-loop-unknown : goal.invariant-loop-unknown
invariant-loop-unknown g l = IsLearnt (question_of l.boot.state l.goal l.known)

abbrev pub decreases-loop-unknown : goal.decreases-loop-unknown
decreases-loop-unknown g l = left l.known
