use Rattle.m161_judge.proofs.Cutting.{first_is_no_worse}
use Rattle.m161_judge.proofs.laws.first_is_no_worse.Goals as goal

pub returns : goal.returns
returns c = λ criteria s events. first_is_no_worse criteria s events
