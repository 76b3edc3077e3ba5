use Rattle.m161_states.proofs.Followed.{start_is_boot}
use Rattle.m161_states.proofs.run_laws.start_is_boot.Goals as goal

pub returns : goal.returns
returns c = record { law = start_is_boot }
