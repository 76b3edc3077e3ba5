use Rattle.m161_places.proofs.Differing.{have_different_runs}
use Rattle.m161_places.proofs.laws.have_different_runs.Goals as goal

pub returns : goal.returns
returns c = λ n rules keys turns cursor s. have_different_runs n rules keys turns cursor s
