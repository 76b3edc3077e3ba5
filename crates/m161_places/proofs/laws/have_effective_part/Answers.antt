use Rattle.m161_places.proofs.Effective.{have_effective_part}
use Rattle.m161_places.proofs.laws.have_effective_part.Goals as goal

pub returns : goal.returns
returns c = λ n rules keys turns cursor s all. have_effective_part n rules keys turns cursor s all
