use Rattle.std.proofs.Common.{◌≡◌, ◌∷◌, string_bytes}
use Rattle.m161_machine.specs.State.{processor_at}
use Rattle.m161_display.specs.Shows.{numbered_lines, place_line, registers_line}
use Rattle.m161_text.specs.Lines.{text_of}
use Rattle.m161_display.proofs.regs.show_regs.Given as goal

-- the first line, and those of the registers so far
abbrev pub invariant-loop-i : goal.invariant-loop-i
invariant-loop-i g l =
    string_bytes l.text
    ≡ text_of (place_line l.p (processor_at l.p l.core.state.processors) ∷ numbered_lines l.i (registers_line (processor_at l.p l.core.state.processors)))
