use Rattle.m161_machine.proofs.Storing.{stores_agree, stores_lead}
use Rattle.m161_machine.proofs.laws.stores_agree.Goals as goal

pub returns-clause-agree : goal.returns-clause-agree
returns-clause-agree g = stores_agree

pub returns-clause-image : goal.returns-clause-image
returns-clause-image g = stores_lead
