use Rattle.m161_reach.specs.Reach.{rules_of}
use Rattle.m161_reach.proofs.system.MachinesSystem.advance.Goals as goal

pub advance-requires-clause-event : goal.advance-requires-clause-event
unfolding rules_of
advance-requires-clause-event g c = c.requires.event
