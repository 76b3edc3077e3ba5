use Rattle.std.proofs.Common.{◌-◌}
use Rattle.m161_explore.specs.Unfinished.{IsUnfinished}
use Rattle.m161_explore.proofs.whole.explore_with.Given as goal

abbrev pub invariant-loop-unfinished : goal.invariant-loop-unfinished
invariant-loop-unfinished g l =
    IsUnfinished (g.S.System.rules l.system) (g.S.System.is_valid l.system) (g.S.System.is_ready l.system) l.limit l.unfinished

abbrev pub decreases-loop-unfinished : goal.decreases-loop-unfinished
decreases-loop-unfinished g l = l.limit - l.unfinished.tried
