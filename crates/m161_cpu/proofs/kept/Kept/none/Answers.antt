use Rattle.m161_cpu.proofs.KeptRows.{none_kept}
use Rattle.m161_cpu.proofs.kept.Kept.none.Goals as goal

pub returns : goal.returns
returns c = λ rows access. none_kept rows access
