use Rattle.m161_reach.specs.Reach.{rules_of}
use Rattle.m161_reach.proofs.system.MachinesSystem.restore.Goals as goal

pub restore-requires-clause-view : goal.restore-requires-clause-view
unfolding rules_of
restore-requires-clause-view g c = c.requires.view

pub returns-clause-view : goal.returns-clause-view
unfolding rules_of
returns-clause-view g c = c.restore.ensures.view
