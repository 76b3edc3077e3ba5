use Rattle.m161_states.proofs.Law.{alike_stored}
use Rattle.m161_states.proofs.laws.alike_stored.Goals as goal

pub returns : goal.returns
returns c = record { law = alike_stored c.alike_states_behave_alike.ensures.alike c.words_tell_a_view.ensures.views }
