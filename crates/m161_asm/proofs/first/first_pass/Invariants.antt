use Rattle.std.specs.Prelude.{[]}
use Rattle.std.proofs.Common.{◌≡◌, ◌≤◌, ◌+◌, length}
use Rattle.m161_text.specs.Lines.{lines_of}
use Rattle.m161_asm.specs.Text.{read_lines}
use Rattle.m161_asm.specs.helpers.Seen.{above_of}
use Rattle.m161_asm.specs.helpers.FirstPass.{IsPass}
use Rattle.m161_asm.proofs.first.first_pass.Given as goal

abbrev pub invariant-loop-rest : goal.invariant-loop-rest
invariant-loop-rest l =
    record {
      pass : IsPass l.pass;
      so_far : read_lines (above_of l.pass.lines.items) (lines_of l.rest)
          ≡ read_lines [] (lines_of l.text);
      within : length l.rest ≤ length l.text;
      counted : length l.pass.lines.items + length (lines_of l.rest) ≡ length (lines_of l.text);
    }

abbrev pub decreases-loop-rest : goal.decreases-loop-rest
decreases-loop-rest l = length l.rest
