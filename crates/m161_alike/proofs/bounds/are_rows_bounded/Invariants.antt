use Rattle.std.proofs.Common.{ℕ, ◌<◌}
use Rattle.m161_alike.specs.Bounds.{IsRowBounded}
use Rattle.m161_alike.proofs.bounds.are_rows_bounded.Given as goal

-- the rows so far are bounded
abbrev pub invariant-loop-i : goal.invariant-loop-i
invariant-loop-i l = (k : ℕ) → k < l.i → IsRowBounded l.words k
