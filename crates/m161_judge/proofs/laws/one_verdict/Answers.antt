use Rattle.m161_judge.proofs.Unique.{one_verdict}
use Rattle.m161_judge.proofs.laws.one_verdict.Goals as goal

pub returns : goal.returns
returns c = λ criteria s events. one_verdict criteria s events
