use Rattle.std.proofs.Common.{◌≡◌, take}
use Rattle.m161_threads.proofs.before.begins_with.Given as goal

abbrev pub invariant-loop-i : goal.invariant-loop-i
invariant-loop-i g l = take l.i l.machine.log ≡ take l.i l.entries
