use Rattle.std.proofs.Common.{length}
use Rattle.m161_dis.proofs.+put_operands.Given as goal

abbrev pub decreases-put_operands : goal.decreases-put_operands
decreases-put_operands l = length l.operands.now
