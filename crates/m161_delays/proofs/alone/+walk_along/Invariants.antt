use Rattle.std.specs.Prelude.{◌≤◌}
use Rattle.m161_order.specs.Delays.{delays_of}
use Rattle.m161_delays.specs.Runs.{StandsAt}
use Rattle.m161_delays.specs.helpers.Last.{last_from}
use Rattle.m161_delays.specs.helpers.Slicing.{AreMade, first_of}
use Rattle.m161_delays.proofs.Slicing.{IsBelowFrom}
use Rattle.m161_delays.proofs.alone.+walk_along.Given as goal

abbrev pub decreases-walk_along : goal.decreases-walk_along
decreases-walk_along g l = l.more

-- the runs of the lists whose next number is below this one are made, and right
abbrev pub invariant-loop-number : goal.invariant-loop-number
invariant-loop-number g l = record {
  made :
      AreMade (IsBelowFrom l.class (g.T.Runs.offers l.runs) (delays_of l.delays) l.more l.rest l.number) (g.T.Runs.right l.runs) l.limit l.fn.sums l.sums;
  stands : StandsAt (g.T.Runs.is_on l.runs) (delays_of l.delays) l.number l.on;
  least : first_of (last_from l.class.from (delays_of l.delays)) l.rest ≤ l.number;
}
