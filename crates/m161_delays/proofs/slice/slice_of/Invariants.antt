use Rattle.std.specs.Prelude.{◌≤◌, length, min}
use Rattle.m161_delays.specs.helpers.Slicing.{AreMade}
use Rattle.m161_delays.proofs.Slices.{IsShorterFrom}
use Rattle.m161_delays.proofs.slice.slice_of.Given as goal

-- the runs of the shorter lists from this one on are made, and right
abbrev pub invariant-loop-long : goal.invariant-loop-long
invariant-loop-long g l = record {
  made :
      AreMade (IsShorterFrom l.class (g.T.Runs.offers l.runs) l.from l.long) (g.T.Runs.right l.runs) l.limit (record { runs = 0; cut = 0 }) l.sums;
  least : min (length l.from) 65 ≤ l.long;
}
