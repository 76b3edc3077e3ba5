use Rattle.m161_debug.proofs.Going.{has_one_stop}
use Rattle.m161_debug.proofs.laws.has_one_stop.Goals as goal

pub returns : goal.returns
returns g = has_one_stop
