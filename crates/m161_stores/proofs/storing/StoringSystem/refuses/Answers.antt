use Rattle.m161_reach.specs.Reach.{rules_of}
use Rattle.m161_stores.specs.helpers.Storing.{storing_rules}
use Rattle.m161_stores.proofs.storing.StoringSystem.refuses.Goals as goal

pub refuses-requires-clause-event : goal.refuses-requires-clause-event
unfolding rules_of storing_rules
refuses-requires-clause-event g c = c.requires.event

pub returns : goal.returns
unfolding rules_of storing_rules
returns g c = c.refuses.ensures
