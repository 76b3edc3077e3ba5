use Rattle.m161_steplog.proofs.Progress.{SoFar}
use Rattle.std.proofs.Common.{IsUtf8, ◌+◌, ◌≤◌, length}
use Rattle.m161_steplog.proofs.schedule.read_schedule.Given as goal

abbrev pub invariant-loop-line : goal.invariant-loop-line
invariant-loop-line l = record {
  so_far : SoFar l.text l.rest l.events l.number;
  utf8 : IsUtf8 l.rest;
  short : l.number + length l.rest ≤ length l.text;
}

abbrev pub decreases-loop-line : goal.decreases-loop-line
decreases-loop-line l = length l.rest
