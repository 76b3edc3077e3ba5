use Rattle.std.proofs.Common.{IsUtf8, ◌+◌, ◌≤◌, length}
use Rattle.m161_steplog.proofs.Passing.{Passed}
use Rattle.m161_steplog.proofs.comments.pass_comments.Given as goal

abbrev pub invariant-loop-line : goal.invariant-loop-line
invariant-loop-line l = record {
  passed : Passed l.text l.rest l.count;
  utf8 : IsUtf8 l.rest;
  short : l.count + length l.rest ≤ length l.text;
}

abbrev pub decreases-loop-line : goal.decreases-loop-line
decreases-loop-line l = length l.rest
