use Rattle.std.proofs.Common.{length}
use Rattle.m161_isa.proofs.table.+in_fields.Given as goal

abbrev pub decreases-in_fields : goal.decreases-in_fields
decreases-in_fields l = length l.operands.now
