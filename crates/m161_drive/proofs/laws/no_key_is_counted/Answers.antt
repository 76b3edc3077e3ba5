use Rattle.m161_drive.proofs.Keys.{no_key_is_counted}
use Rattle.m161_drive.proofs.laws.no_key_is_counted.Goals as goal

pub returns : goal.returns
returns c = λ rules cursor s. no_key_is_counted rules cursor s
