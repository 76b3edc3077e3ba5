use Rattle.std.proofs.Common.{◌≡◌, map, take, drop, string_bytes}
use Rattle.m161_steplog.specs.Text.{entry_text}
use Rattle.m161_text.specs.Lines.{text_of}
use Rattle.m161_debug.proofs.log.show_log.Given as goal

abbrev pub invariant-loop-i : goal.invariant-loop-i
invariant-loop-i g l = string_bytes l.text ≡ text_of (map entry_text (take l.i (drop l.first l.machine.log)))
