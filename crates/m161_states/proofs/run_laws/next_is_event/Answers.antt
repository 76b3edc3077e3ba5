use Rattle.m161_states.proofs.Followed.{next_is_event}
use Rattle.m161_states.proofs.run_laws.next_is_event.Goals as goal

pub returns : goal.returns
returns c = record { law = next_is_event c.alike_states_behave_alike.ensures.sent }
