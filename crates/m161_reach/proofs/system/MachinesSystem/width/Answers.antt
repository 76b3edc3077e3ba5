use Rattle.m161_reach.specs.Reach.{rules_of}
use Rattle.m161_reach.proofs.system.MachinesSystem.width.Goals as goal

pub returns : goal.returns
unfolding rules_of
returns g c = c.width.ensures
