use Rattle.m161_steplog.proofs.ScheduleLines.{of_no_space}
use Rattle.m161_steplog.proofs.schedule.parse_done.Goals as goal

pub returns-in_default : goal.returns-in_default
returns-in_default c = of_no_space c.args.text.now c.requires c.in_default.not-o
