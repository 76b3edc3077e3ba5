use Rattle.m161_states.proofs.Law.{alike_stop}
use Rattle.m161_states.proofs.laws.alike_stop.Goals as goal

pub returns : goal.returns
returns c = record { law = alike_stop c.alike_states_behave_alike.ensures.alike c.words_tell_a_view.ensures.views }
