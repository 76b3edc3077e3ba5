use Rattle.m161_cpu.proofs.Performed.{settled}
use Rattle.m161_cpu.proofs.fault.settled.Goals as goal

pub returns : goal.returns
returns c = λ r before after same h. settled r before after c.args.executed same h
