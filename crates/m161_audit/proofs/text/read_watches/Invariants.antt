use Rattle.m161_audit.proofs.WatchTexts.{SoFar}
use Rattle.std.proofs.Common.{IsUtf8, ◌+◌, ◌≤◌, length}
use Rattle.m161_audit.proofs.text.read_watches.Given as goal

abbrev pub invariant-loop-line : goal.invariant-loop-line
invariant-loop-line l = record {
  so_far : SoFar l.text l.rest l.watches.items l.number;
  utf8 : IsUtf8 l.rest;
  short : l.number + length l.rest ≤ length l.text;
}

abbrev pub decreases-loop-line : goal.decreases-loop-line
decreases-loop-line l = length l.rest
