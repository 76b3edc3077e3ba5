use Rattle.std.proofs.Common.{◌≡◌, ◌+◌, ◌*◌, string_bytes}
use Rattle.m161_display.specs.Shows.{numbered_lines, code_line}
use Rattle.m161_text.specs.Lines.{text_of}
use Rattle.m161_display.proofs.code.show_code.Given as goal

abbrev pub invariant-loop-i : goal.invariant-loop-i
invariant-loop-i g l = string_bytes l.text ≡ text_of (numbered_lines l.i (λ i. code_line l.style l.core.state.memory (l.address + 4 * i)))
