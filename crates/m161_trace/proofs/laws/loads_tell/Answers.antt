use Rattle.m161_trace.proofs.LoadsTell.{loads_tell}
use Rattle.m161_trace.proofs.laws.loads_tell.Goals as goal

pub returns : goal.returns
returns c = loads_tell c.uses_tell_the_step.ensures.step
