use Rattle.std.proofs.Common.{◌≡◌, ◌+◌, ◌*◌, ◌++◌, string_bytes}
use Rattle.m161_display.specs.Shows.{code_line, numbered_lines}
use Rattle.m161_text.specs.Lines.{text_of}
use Rattle.s161_texts.proofs.disassembly.write_span.Given as goal

abbrev pub invariant-loop-i : goal.invariant-loop-i
invariant-loop-i l =
    string_bytes l.text ≡ string_bytes l.fn.text ++ text_of (numbered_lines l.i (λ i. code_line l.style l.memory (l.start + 4 * i)))
