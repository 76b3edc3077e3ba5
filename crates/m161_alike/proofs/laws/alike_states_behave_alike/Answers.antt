use Rattle.m161_alike.proofs.Behaving.{alike_law, sent_law}
use Rattle.m161_alike.proofs.laws.alike_states_behave_alike.Goals as goal

pub returns-clause-alike : goal.returns-clause-alike
returns-clause-alike c = alike_law

pub returns-clause-sent : goal.returns-clause-sent
returns-clause-sent c = sent_law
