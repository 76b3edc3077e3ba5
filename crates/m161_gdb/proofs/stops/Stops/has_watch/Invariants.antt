use Rattle.std.proofs.Common.{◌≡◌, length}
use Rattle.m161_gdb.specs.Stops.{has_watch}
use Rattle.m161_gdb.proofs.stops.Stops.has_watch.Given as goal

abbrev pub invariant-loop-rest : goal.invariant-loop-rest
invariant-loop-rest l = has_watch l.rest l.kind l.address l.size ≡ has_watch l.self.watches l.kind l.address l.size

abbrev pub decreases-loop-rest : goal.decreases-loop-rest
decreases-loop-rest l = length l.rest
