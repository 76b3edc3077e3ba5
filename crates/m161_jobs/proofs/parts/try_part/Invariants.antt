use Rattle.std.proofs.Common.{◌-◌, ◌≤◌}
use Rattle.std.specs.List.{range_with_len}
use Rattle.m161_jobs.specs.Trials.{AreRight}
use Rattle.m161_jobs.proofs.parts.try_part.Given as goal

-- the trials so far are right
abbrev pub invariant-loop-place : goal.invariant-loop-place
invariant-loop-place g l = record {
  right : AreRight (g.T.Trials.right l.trials) (range_with_len l.from (l.place - l.from)) l.cut;
  few : l.cut ≤ l.place - l.from;
}
