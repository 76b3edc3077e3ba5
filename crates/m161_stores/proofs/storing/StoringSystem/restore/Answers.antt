use Rattle.m161_stores.specs.helpers.Storing.{storing_rules}
use Rattle.m161_stores.proofs.storing.StoringSystem.restore.Goals as goal

pub restore-requires-clause-view : goal.restore-requires-clause-view
unfolding storing_rules
restore-requires-clause-view g c = c.requires.view

pub returns-clause-view : goal.returns-clause-view
unfolding storing_rules
returns-clause-view g c = c.restore.ensures.view
