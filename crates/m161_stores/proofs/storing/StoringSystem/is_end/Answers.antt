use Rattle.m161_reach.specs.Reach.{rules_of}
use Rattle.m161_stores.specs.helpers.Storing.{storing_rules}
use Rattle.m161_stores.proofs.storing.StoringSystem.is_end.Goals as goal

pub returns : goal.returns
unfolding rules_of storing_rules
returns g c = c.is_end.ensures
