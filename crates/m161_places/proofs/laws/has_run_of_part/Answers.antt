use Rattle.m161_places.proofs.Moving.{run_of_part}
use Rattle.m161_places.proofs.laws.has_run_of_part.Goals as goal

pub returns : goal.returns
returns c = λ rules n steps all part s driven entries t. run_of_part rules n steps all part s driven entries t
