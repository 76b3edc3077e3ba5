use Rattle.m161_server.proofs.Existing.{has_answer}
use Rattle.m161_server.proofs.laws.has_answer.Goals as goal

pub returns : goal.returns
returns c = has_answer
