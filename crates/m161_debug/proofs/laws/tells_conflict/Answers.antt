use Rattle.m161_debug.proofs.Conflicts.{tells_conflict}
use Rattle.m161_debug.proofs.laws.tells_conflict.Goals as goal

pub returns : goal.returns
returns g = tells_conflict
