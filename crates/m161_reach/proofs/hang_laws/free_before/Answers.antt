use Rattle.m161_reach.proofs.Behind.{free_before}
use Rattle.m161_reach.proofs.hang_laws.free_before.Goals as goal

pub returns : goal.returns
returns c = record { law = free_before }
