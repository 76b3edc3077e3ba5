use Rattle.m161_dis.proofs.Survives.{survives}
use Rattle.m161_dis.proofs.laws.survives_disassembling.Goals as goal

pub returns : goal.returns
returns c = survives
