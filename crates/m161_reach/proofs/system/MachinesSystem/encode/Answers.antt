use Rattle.m161_reach.specs.Reach.{rules_of}
use Rattle.m161_reach.proofs.system.MachinesSystem.encode.Goals as goal

pub returns-clause-words : goal.returns-clause-words
unfolding rules_of
returns-clause-words g c = c.write.ensures.words
