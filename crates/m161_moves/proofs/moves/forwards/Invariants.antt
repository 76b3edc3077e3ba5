use Rattle.std.proofs.Common.{◌≡◌, ◌-◌, ◌<◌, ◌≤◌}
use Rattle.std.specs.Prelude.{None}
use Rattle.m161_moves.specs.Moves.{forwards_reason}
use Rattle.m161_moves.specs.helpers.Looking.{StandsFor}
use Rattle.m161_moves.proofs.Ahead.{NoneBefore}
use Rattle.m161_moves.proofs.moves.forwards.Given as goal

-- nothing stopped before the place of the run
abbrev pub invariant-loop-found : goal.invariant-loop-found
invariant-loop-found g l = record {
  same : g.R.Run.course l.run ≡ g.R.Run.course l.fn.run;
  more : g.R.Run.place l.fn.run ≤ g.R.Run.place l.run;
  stands : l.found.reason ≡ None → g.R.Run.place l.run < (g.R.Run.course l.fn.run).end →
      StandsFor l.stops l.chosen ((g.R.Run.course l.fn.run).step (g.R.Run.place l.run)) l.found.step;
  found : l.found.reason ≡ forwards_reason (g.R.Run.course l.fn.run) l.stops l.chosen (g.R.Run.place l.fn.run) (g.R.Run.place l.run);
  before : NoneBefore (g.R.Run.course l.fn.run) l.stops l.chosen (g.R.Run.place l.fn.run) (g.R.Run.place l.run);
}

abbrev pub decreases-loop-found : goal.decreases-loop-found
decreases-loop-found g l = (g.R.Run.course l.fn.run).end - g.R.Run.place l.run
