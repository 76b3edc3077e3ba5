use Rattle.m161_stores.specs.helpers.Storing.{storing_rules}
use Rattle.m161_stores.proofs.storing.StoringSystem.start.Goals as goal

pub returns-clause-start : goal.returns-clause-start
unfolding storing_rules
returns-clause-start g c = c.first_in_hand.ensures.start
