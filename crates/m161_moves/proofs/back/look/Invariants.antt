use Rattle.std.proofs.Common.{◌≡◌, ◌-◌, ◌<◌, ◌≤◌}
use Rattle.m161_moves.specs.Moves.{backwards_reason}
use Rattle.m161_moves.specs.helpers.Looking.{StandsFor}
use Rattle.m161_moves.specs.helpers.Places.{IsLast}
use Rattle.m161_moves.proofs.back.look.Given as goal

-- what was found is the last up to the place of the run
abbrev pub invariant-loop-step : goal.invariant-loop-step
invariant-loop-step g l = record {
  same : g.R.Run.course l.run ≡ g.R.Run.course l.fn.run;
  near : g.R.Run.place l.run ≤ l.last;
  more : g.R.Run.place l.fn.run ≤ g.R.Run.place l.run;
  stands : g.R.Run.place l.run < l.from → StandsFor l.stops l.chosen ((g.R.Run.course l.fn.run).step (g.R.Run.place l.run)) l.step;
  found : IsLast (backwards_reason (g.R.Run.course l.fn.run) l.stops l.chosen l.from) (g.R.Run.place l.fn.run) (g.R.Run.place l.run) l.found;
}

abbrev pub decreases-loop-step : goal.decreases-loop-step
decreases-loop-step g l = l.last - g.R.Run.place l.run
