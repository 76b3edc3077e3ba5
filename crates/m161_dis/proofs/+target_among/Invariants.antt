use Rattle.std.proofs.Common.{length}
use Rattle.m161_dis.proofs.+target_among.Given as goal

abbrev pub decreases-target_among : goal.decreases-target_among
decreases-target_among l = length l.operands.now
