use Rattle.m161_stores.specs.helpers.Storing.{storing_rules}
use Rattle.m161_stores.proofs.storing.StoringSystem.width.Goals as goal

pub returns : goal.returns
unfolding storing_rules
returns g c = c.width.ensures
