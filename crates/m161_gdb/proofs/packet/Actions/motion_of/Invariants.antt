use Rattle.std.proofs.Common.{◌≡◌, length}
use Rattle.m161_gdb.specs.Packets.{first_naming}
use Rattle.m161_gdb.proofs.packet.Actions.motion_of.Given as goal

abbrev pub invariant-loop-rest : goal.invariant-loop-rest
invariant-loop-rest l = first_naming l.processor l.rest ≡ first_naming l.processor l.self

abbrev pub decreases-loop-rest : goal.decreases-loop-rest
decreases-loop-rest l = length l.rest
