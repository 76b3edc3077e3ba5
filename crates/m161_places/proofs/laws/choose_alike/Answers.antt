use Rattle.m161_places.proofs.Alike.{choose_alike}
use Rattle.m161_places.proofs.laws.choose_alike.Goals as goal

pub returns : goal.returns
returns c = λ n rules keys turns cursor s. choose_alike n rules keys turns cursor s
