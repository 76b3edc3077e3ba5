use Rattle.std.proofs.Common.{◌≡◌, ◌-◌, slice_get}
use denote.Shadow.{shadow}
use denote.Text.{Utf8}
use Rattle.m161_text.specs.Lines.{lines_of}
use Rattle.s161_base.proofs.excerpt.line_at.Given as goal

-- the line is among the rest's, behind as many as are left to pass over
abbrev pub invariant-loop-at : goal.invariant-loop-at
invariant-loop-at l =
    record {
      line : slice_get (lines_of l.fn.text) (l.fn.n - 1) ≡ slice_get (lines_of l.rest) (l.fn.n - l.at);
      utf8 : shadow (Utf8 l.rest);
    }

abbrev pub decreases-loop-at : goal.decreases-loop-at
decreases-loop-at l = l.fn.n - l.at
