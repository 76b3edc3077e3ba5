use Rattle.std.proofs.Common.{refl}
use Rattle.m161_steplog.proofs.ScheduleLines.{of_other}
use Rattle.m161_steplog.proofs.schedule.parse_event.Goals as goal

pub returns-in_default : goal.returns-in_default
returns-in_default c = of_other _ _ _ (c.requires, refl) c.in_default.not-s c.in_default.not-k
