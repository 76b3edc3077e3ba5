use Rattle.std.proofs.Common.{◌≡◌, ◌-◌, ◌≤◌}
use Rattle.m161_moves.proofs.back.go_to.Given as goal

-- the run doesn't go beyond the place
abbrev pub invariant-loop-run : goal.invariant-loop-run
invariant-loop-run g l = record {
  same : g.R.Run.course l.run ≡ g.R.Run.course l.fn.run;
  near : g.R.Run.place l.run ≤ l.place;
}

abbrev pub decreases-loop-run : goal.decreases-loop-run
decreases-loop-run g l = l.place - g.R.Run.place l.run
