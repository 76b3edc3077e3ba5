use Rattle.m161_delays.specs.helpers.Walking.{AreCounted}
use Rattle.m161_delays.proofs.Lengths.{IsShorter}
use Rattle.m161_delays.proofs.search.search_lists.Given as goal

-- the runs of the shorter lists are made, and right
abbrev pub invariant-loop-length : goal.invariant-loop-length
invariant-loop-length g l =
    AreCounted (IsShorter l.class (g.T.Runs.offers l.runs) l.length) (g.T.Runs.right l.runs) (record { runs = 0; cut = 0 }) l.sums
