use Rattle.m161_drive.proofs.Keys.{keys_are_apart}
use Rattle.m161_drive.proofs.laws.keys_are_apart.Goals as goal

pub returns : goal.returns
returns c = λ rules cursor s. keys_are_apart rules cursor s
