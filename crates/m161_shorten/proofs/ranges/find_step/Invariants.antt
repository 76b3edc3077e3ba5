use Rattle.m161_shorten.proofs.Finding.{SoFar}
use Rattle.m161_shorten.proofs.ranges.find_step.Given as goal

abbrev pub invariant-loop-k : goal.invariant-loop-k
invariant-loop-k l = SoFar l.p l.events l.k
