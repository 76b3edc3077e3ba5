use Rattle.m161_drive.proofs.Continuing.{on_whole}
use Rattle.m161_drive.proofs.laws.goes_on_whole.Goals as goal

pub returns : goal.returns
returns c = λ rules n s. on_whole rules n s
