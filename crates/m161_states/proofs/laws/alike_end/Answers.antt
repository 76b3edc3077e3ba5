use Rattle.m161_states.proofs.Law.{alike_end}
use Rattle.m161_states.proofs.laws.alike_end.Goals as goal

pub returns : goal.returns
returns c = record { law = alike_end c.alike_states_behave_alike.ensures.alike c.words_tell_a_view.ensures.views }
