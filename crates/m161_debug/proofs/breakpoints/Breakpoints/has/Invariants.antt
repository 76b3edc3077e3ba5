use Rattle.std.proofs.Common.{◌≡◌, take, false}
use Rattle.m161_debug.specs.Breakpoints.{has}
use Rattle.m161_debug.proofs.breakpoints.Breakpoints.has.Given as goal

abbrev pub invariant-loop-i : goal.invariant-loop-i
invariant-loop-i l = has l.breakpoint (take l.i l.self-inside.table) ≡ false
