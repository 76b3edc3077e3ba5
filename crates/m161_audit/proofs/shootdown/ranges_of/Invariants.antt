use Rattle.std.proofs.Common.{◌≡◌, length}
use Rattle.std.specs.Prelude.{All}
use Rattle.m161_audit.specs.helpers.Progress.{AreInRangesBefore, IsAtMost}
use Rattle.m161_audit.proofs.shootdown.ranges_of.Given as goal

-- the ranges of the shootdowns so far
abbrev pub invariant-loop-i : goal.invariant-loop-i
invariant-loop-i l =
    AreInRangesBefore l.firsts l.pasts l.items l.i
    × All (IsAtMost (length l.items)) l.pasts
    × (length l.firsts ≡ 64) × (length l.pasts ≡ 64)
