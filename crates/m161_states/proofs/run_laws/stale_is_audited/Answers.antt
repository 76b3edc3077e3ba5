use Rattle.m161_states.proofs.Audited.{stale_is_audited}
use Rattle.m161_states.proofs.run_laws.stale_is_audited.Goals as goal

pub returns : goal.returns
returns c = record { law = stale_is_audited }
