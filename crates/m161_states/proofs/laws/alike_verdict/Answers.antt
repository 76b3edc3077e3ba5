use Rattle.m161_states.proofs.Law.{alike_verdict}
use Rattle.m161_states.proofs.laws.alike_verdict.Goals as goal

pub returns : goal.returns
returns c = record { law = alike_verdict c.alike_states_behave_alike.ensures.alike c.words_tell_a_view.ensures.views }
