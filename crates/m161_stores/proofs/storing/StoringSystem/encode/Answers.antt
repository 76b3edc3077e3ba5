use Rattle.m161_stores.specs.helpers.Storing.{storing_rules}
use Rattle.m161_stores.proofs.storing.StoringSystem.encode.Goals as goal

pub returns-clause-words : goal.returns-clause-words
unfolding storing_rules
returns-clause-words g c = c.write.ensures.words
