use Rattle.std.proofs.Common.{◌≡◌, map, take, string_bytes}
use Rattle.m161_cop0.specs.Registers.{all_registers}
use Rattle.m161_display.specs.Shows.{cop0_line}
use Rattle.m161_text.specs.Lines.{text_of}
use Rattle.m161_display.proofs.cop0.show_cop0.Given as goal

abbrev pub invariant-loop-i : goal.invariant-loop-i
invariant-loop-i g l =
    string_bytes l.text ≡ text_of (map (cop0_line l.p l.core.state) (take l.i all_registers))
