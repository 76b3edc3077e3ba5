use Rattle.m161_steplog.proofs.Sizes.{schedule_behind, size_first}
use Rattle.m161_steplog.proofs.laws.schedule_behind_size_line.Goals as goal

pub returns : goal.returns
returns c = record {
  size = λ m text fits. size_first m text fits;
  schedule = λ m text es fits schedule. schedule_behind m text es fits schedule;
}
