use Rattle.m161_reach.proofs.Numbering.{cut_keeps_hang}
use Rattle.m161_reach.proofs.hang_laws.cut_keeps_hang.Goals as goal

pub returns : goal.returns
returns c = record { law = cut_keeps_hang }
