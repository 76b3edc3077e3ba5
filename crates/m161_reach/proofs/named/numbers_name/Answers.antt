use Rattle.m161_reach.proofs.Numbering.{numbers_name}
use Rattle.m161_reach.proofs.named.numbers_name.Goals as goal

pub returns : goal.returns
returns c = record { law = numbers_name }
