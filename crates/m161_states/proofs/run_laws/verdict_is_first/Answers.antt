use Rattle.m161_states.proofs.Ranked.{verdict_is_first}
use Rattle.m161_states.proofs.run_laws.verdict_is_first.Goals as goal

pub returns : goal.returns
returns c = record { law = verdict_is_first c.alike_states_behave_alike.ensures.sent }
