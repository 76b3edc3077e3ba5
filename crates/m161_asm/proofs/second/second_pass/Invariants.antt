use Rattle.std.specs.Prelude.{take}
use Rattle.m161_asm.specs.Seen.{symbols_seen}
use Rattle.m161_asm.specs.helpers.Seen.{above_of}
use Rattle.m161_asm.specs.helpers.SecondPass.{IsFilled}
use Rattle.m161_asm.proofs.second.second_pass.Given as goal

abbrev pub invariant-loop-i : goal.invariant-loop-i
invariant-loop-i l = IsFilled l.pass (symbols_seen l.symbols) (above_of (take l.i l.lines))
