use Rattle.m161_steplog.proofs.Reread.{reread}
use Rattle.m161_steplog.proofs.laws.written_schedule_is_read.Goals as goal

pub returns : goal.returns
returns c = λ es each few. reread es each few
