use Rattle.m161_states.proofs.Law.{alike_next}
use Rattle.m161_states.proofs.laws.alike_next.Goals as goal

pub returns : goal.returns
returns c = record { law = alike_next c.alike_states_behave_alike.ensures.alike c.words_tell_a_view.ensures.views }
