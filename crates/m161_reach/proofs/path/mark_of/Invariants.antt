use Rattle.std.proofs.Common.{◌≡◌}
use Rattle.m161_reach.specs.helpers.Path.{mark_upto}
use Rattle.m161_reach.proofs.path.mark_of.Given as goal

abbrev pub invariant-loop-p : goal.invariant-loop-p
invariant-loop-p g l = l.mark ≡ mark_upto l.core.state.processors l.p
