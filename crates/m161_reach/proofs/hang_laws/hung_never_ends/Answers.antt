use Rattle.m161_reach.proofs.Walking.{hung_never_ends}
use Rattle.m161_reach.proofs.hang_laws.hung_never_ends.Goals as goal

pub returns : goal.returns
returns c = record { law = hung_never_ends }
