use Rattle.m161_reach.specs.From.{asked_of}
use Rattle.m161_reach.proofs.Knowing.{left}
use Rattle.m161_reach.proofs.Learning.{IsToldBy}
use Rattle.m161_reach.proofs.hang.hangs_from.Given as goal

-- what is known is read
abbrev pub invariant-loop-unknown : goal.invariant-loop-unknown
invariant-loop-unknown g l = IsToldBy (asked_of l.boot.state l.goal) l.place l.known

abbrev pub decreases-loop-unknown : goal.decreases-loop-unknown
decreases-loop-unknown g l = left l.known
