use Rattle.std.proofs.Common.{◌≡◌}
use Rattle.std.specs.Prelude.{drop}
use Rattle.m161_asm.specs.Lines.{sound}
use Rattle.m161_asm.specs.helpers.Seen.{all_seen}
use Rattle.m161_asm.proofs.line.sound.Given as goal

abbrev pub invariant-loop-t : goal.invariant-loop-t
invariant-loop-t l = sound (all_seen (drop l.t-index l.ts)) ≡ sound (all_seen l.ts)
