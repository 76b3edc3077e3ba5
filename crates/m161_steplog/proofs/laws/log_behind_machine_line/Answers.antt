use Rattle.m161_steplog.proofs.Behind.{machine_first, log_behind}
use Rattle.m161_steplog.proofs.laws.log_behind_machine_line.Goals as goal

pub returns : goal.returns
returns c = record {
  machine = λ m text fits. machine_first m text fits;
  log = λ m text mode es fits log. log_behind m text mode es fits log;
}
