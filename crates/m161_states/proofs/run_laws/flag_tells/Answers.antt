use Rattle.m161_states.proofs.Told.{flag_tells}
use Rattle.m161_states.proofs.run_laws.flag_tells.Goals as goal

pub returns : goal.returns
returns c = record { law = flag_tells }
