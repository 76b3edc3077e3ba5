use Rattle.std.proofs.Common.{◌≡◌, length}
use Rattle.m161_gdb.specs.Packets.{number_from, number_of}
use Rattle.m161_gdb.proofs.number.number_of.Given as goal

abbrev pub invariant-loop-rest : goal.invariant-loop-rest
invariant-loop-rest l = number_from l.number l.rest ≡ number_of l.text

abbrev pub decreases-loop-rest : goal.decreases-loop-rest
decreases-loop-rest l = length l.rest
