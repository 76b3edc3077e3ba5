use Rattle.std.proofs.Common.{◌≡◌, IsUtf8, length}
use Rattle.m161_text.specs.Lines.{lines_of}
use Rattle.s161_base.specs.Listed.{first_plain}
use Rattle.s161_base.proofs.listed.first_plain.Given as goal

-- the first lines are comments
abbrev pub invariant-loop-line : goal.invariant-loop-line
invariant-loop-line l = record {
  same : first_plain (lines_of l.rest) ≡ first_plain (lines_of l.text);
  utf8 : IsUtf8 l.rest;
}

abbrev pub decreases-loop-line : goal.decreases-loop-line
decreases-loop-line l = length l.rest
