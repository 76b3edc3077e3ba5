use Rattle.m161_drive.proofs.Keys.{key_is_typed}
use Rattle.m161_drive.proofs.laws.key_is_typed.Goals as goal

pub returns : goal.returns
returns c = λ rules cursor s. key_is_typed rules cursor s
