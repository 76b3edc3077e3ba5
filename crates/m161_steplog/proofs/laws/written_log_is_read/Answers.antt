use Rattle.m161_steplog.specs.Log.{log_text}
use Rattle.m161_steplog.proofs.Behind.{log_file}
use Rattle.m161_steplog.proofs.Logs.{written_log}
use Rattle.m161_steplog.proofs.laws.written_log_is_read.Goals as goal

pub returns : goal.returns
returns c = λ mode es each. log_file (log_text mode es) mode es (written_log mode es each)
