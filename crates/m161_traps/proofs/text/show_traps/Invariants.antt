use Rattle.std.proofs.Common.{◌≡◌, string_bytes, take}
use Rattle.m161_traps.specs.Shown.{traps_text}
use Rattle.m161_traps.proofs.text.show_traps.Given as goal

-- the lines so far
abbrev pub invariant-loop-line : goal.invariant-loop-line
invariant-loop-line l = string_bytes l.text ≡ traps_text (take l.line-index l.lines)
