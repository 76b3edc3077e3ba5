use Rattle.m161_states.proofs.Agreed.{agreed_tells}
use Rattle.m161_states.proofs.run_laws.agreed_tells.Goals as goal

pub returns : goal.returns
returns c = record { law = agreed_tells }
