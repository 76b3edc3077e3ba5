use Rattle.m161_judge.proofs.Exact.{stuck_is_no_choice}
use Rattle.m161_judge.proofs.laws.stuck_is_no_choice.Goals as goal

pub returns : goal.returns
returns c = λ keys typed s. stuck_is_no_choice keys typed s
