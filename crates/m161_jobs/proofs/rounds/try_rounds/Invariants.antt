use Rattle.std.proofs.Common.{◌-◌, ◌≤◌, ◌<◌}
use Rattle.std.specs.List.{range_with_len}
use Rattle.m161_jobs.specs.Trials.{AreRight}
use Rattle.m161_jobs.proofs.rounds.try_rounds.Given as goal

-- the trials so far are right
abbrev pub invariant-loop-from : goal.invariant-loop-from
invariant-loop-from g l = record {
  right : AreRight (g.T.Trials.right l.trials) (range_with_len 0 l.from) l.cut;
  few : l.cut ≤ l.from;
  within : l.from ≤ l.count;
  most : (0 < l.most) × (l.most ≤ 4096);
}

abbrev pub decreases-loop-from : goal.decreases-loop-from
decreases-loop-from g l = l.count - l.from
