use Rattle.std.proofs.Common.{◌≡◌, false, take}
use Rattle.m161_gdb.specs.Frames.{has}
use Rattle.m161_server.proofs.words.cut.Given as goal

abbrev pub invariant-loop-i : goal.invariant-loop-i
invariant-loop-i l = has 32 (take l.i l.text) ≡ false
