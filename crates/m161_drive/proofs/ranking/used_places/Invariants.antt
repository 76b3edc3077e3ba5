use Rattle.std.proofs.Common.{◌≤◌}
use Rattle.m161_drive.specs.helpers.Places.{AreFrom}
use Rattle.m161_drive.proofs.ranking.used_places.Given as goal

-- the places behind those that are left
abbrev pub invariant-loop-used : goal.invariant-loop-used
invariant-loop-used l = (l.used ≤ 32) × AreFrom l.number l.used l.processors

abbrev pub decreases-loop-used : goal.decreases-loop-used
decreases-loop-used l = l.used
