use Rattle.m161_reach.proofs.Numbering.{hanging_are_made}
use Rattle.m161_reach.proofs.hang_laws.hanging_are_made.Goals as goal

pub returns : goal.returns
returns c = record { law = hanging_are_made c.named_are_made.ensures.law }
