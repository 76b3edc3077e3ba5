use Rattle.m161_judge.proofs.Cutting.{cut_keeps_verdict}
use Rattle.m161_judge.proofs.laws.cut_keeps_verdict.Goals as goal

pub returns : goal.returns
returns c = λ criteria s events judged. cut_keeps_verdict criteria s events judged
