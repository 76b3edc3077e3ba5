use Rattle.m161_order.specs.Delays.{delays_of}
use Rattle.m161_delays.specs.Runs.{StandsAt}
use Rattle.m161_delays.specs.helpers.Walking.{AreCounted, IsBehindBelow}
use Rattle.m161_delays.proofs.walk.+walk.Given as goal

abbrev pub decreases-walk : goal.decreases-walk
decreases-walk g l = l.more

-- the runs of the lists whose next number is below this one are made, and right
abbrev pub invariant-loop-number : goal.invariant-loop-number
invariant-loop-number g l = record {
  counted :
      AreCounted (IsBehindBelow l.class (g.T.Runs.offers l.runs) (delays_of l.delays) l.more l.number) (g.T.Runs.right l.runs) l.fn.sums l.sums;
  stands : StandsAt (g.T.Runs.is_on l.runs) (delays_of l.delays) l.number l.on;
}
