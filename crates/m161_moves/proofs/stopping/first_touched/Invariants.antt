use Rattle.std.proofs.Common.{◌≡◌, length}
use Rattle.m161_moves.specs.Stopping.{first_touched}
use Rattle.m161_moves.proofs.stopping.first_touched.Given as goal

abbrev pub invariant-loop-rest : goal.invariant-loop-rest
invariant-loop-rest l = first_touched l.rest l.access ≡ first_touched l.watches l.access

abbrev pub decreases-loop-rest : goal.decreases-loop-rest
decreases-loop-rest l = length l.rest
