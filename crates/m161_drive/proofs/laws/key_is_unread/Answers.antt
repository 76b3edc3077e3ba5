use Rattle.m161_drive.proofs.Keys.{key_is_unread}
use Rattle.m161_drive.proofs.laws.key_is_unread.Goals as goal

pub returns : goal.returns
returns c = λ rules cursor s. key_is_unread rules cursor s
