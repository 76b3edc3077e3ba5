use Rattle.std.proofs.Common.{◌≡◌, length}
use Rattle.m161_gdb.specs.Packets.{bytes_of}
use Rattle.m161_gdb.specs.helpers.Lists.{all_behind}
use Rattle.m161_gdb.proofs.table.bytes_of.Given as goal

abbrev pub invariant-loop-rest : goal.invariant-loop-rest
invariant-loop-rest l = all_behind l.line (bytes_of l.rest) ≡ bytes_of l.digits

abbrev pub decreases-loop-rest : goal.decreases-loop-rest
decreases-loop-rest l = length l.rest
