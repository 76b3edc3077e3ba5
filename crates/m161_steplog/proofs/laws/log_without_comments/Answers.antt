use Rattle.m161_steplog.proofs.Behind.{log_file}
use Rattle.m161_steplog.proofs.laws.log_without_comments.Goals as goal

pub returns : goal.returns
returns c = λ text mode es log. log_file text mode es log
