use Rattle.std.proofs.Common.{◌≡◌, ◌+◌, length, IsUtf8}
use Rattle.m161_text.specs.Lines.{lines_of}
use Rattle.m161_steplog.specs.helpers.Log.{ReadsLines}
use Rattle.m161_steplog.proofs.log.parse_log.Given as goal

abbrev pub invariant-loop-line : goal.invariant-loop-line
invariant-loop-line l = record {
  read : ReadsLines l.text l.mode l.entries.items (lines_of l.rest);
  utf8 : IsUtf8 l.rest;
  count : l.number ≡ length l.entries.items + 1;
}

abbrev pub decreases-loop-line : goal.decreases-loop-line
decreases-loop-line l = length l.rest
