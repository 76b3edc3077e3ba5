use Rattle.std.proofs.Common.{◌≡◌, length}
use Rattle.m161_gdb.specs.Stops.{has_breakpoint}
use Rattle.m161_gdb.proofs.stops.Stops.has_breakpoint.Given as goal

abbrev pub invariant-loop-rest : goal.invariant-loop-rest
invariant-loop-rest l = has_breakpoint l.rest l.kind l.address ≡ has_breakpoint l.self.breakpoints l.kind l.address

abbrev pub decreases-loop-rest : goal.decreases-loop-rest
decreases-loop-rest l = length l.rest
