use Rattle.std.proofs.Common.{refl}
use Rattle.m161_steplog.proofs.ScheduleLines.{no_steps}
use Rattle.m161_steplog.proofs.schedule.parse_steps.Goals as goal

pub returns-in_default : goal.returns-in_default
returns-in_default c = no_steps _ _ _ (c.requires, refl) c.in_default.not-s
