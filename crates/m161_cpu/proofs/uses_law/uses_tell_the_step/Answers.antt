use Rattle.m161_cpu.proofs.Told.{refers, step_uses}
use Rattle.m161_cpu.proofs.uses_law.uses_tell_the_step.Goals as goal

pub returns-clause-step : goal.returns-clause-step
returns-clause-step c = step_uses

pub returns-clause-effects : goal.returns-clause-effects
returns-clause-effects c = refers
