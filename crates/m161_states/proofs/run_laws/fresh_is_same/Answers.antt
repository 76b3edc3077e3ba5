use Rattle.m161_states.proofs.Followed.{fresh_is_same}
use Rattle.m161_states.proofs.run_laws.fresh_is_same.Goals as goal

pub returns : goal.returns
returns c = record { law = fresh_is_same }
