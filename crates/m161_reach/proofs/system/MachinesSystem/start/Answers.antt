use Rattle.m161_reach.specs.Reach.{rules_of}
use Rattle.m161_reach.proofs.system.MachinesSystem.start.Goals as goal

pub returns-clause-start : goal.returns-clause-start
unfolding rules_of
returns-clause-start g c = c.first_in_hand.ensures.start
