use Rattle.m161_server.proofs.One.{has_one_text}
use Rattle.m161_server.proofs.laws.has_one_text.Goals as goal

pub returns : goal.returns
returns c = has_one_text
