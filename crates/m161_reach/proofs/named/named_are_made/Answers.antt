use Rattle.m161_reach.proofs.Naming.{named_are_made}
use Rattle.m161_reach.proofs.named.named_are_made.Goals as goal

pub returns : goal.returns
returns c = record { law = named_are_made c.fresh_is_same.ensures.law }
