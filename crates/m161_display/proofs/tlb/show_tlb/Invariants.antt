use Rattle.std.proofs.Common.{◌≡◌, string_bytes}
use Rattle.m161_machine.specs.State.{processor_at}
use Rattle.m161_display.specs.Shows.{numbered_lines, row_line}
use Rattle.m161_text.specs.Lines.{text_of}
use Rattle.m161_display.proofs.tlb.show_tlb.Given as goal

abbrev pub invariant-loop-i : goal.invariant-loop-i
invariant-loop-i g l =
    string_bytes l.text ≡ text_of (numbered_lines l.i (row_line (processor_at l.p l.core.state.processors).rows))
