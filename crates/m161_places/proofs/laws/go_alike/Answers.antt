use Rattle.m161_places.proofs.Exchanging.{go_alike}
use Rattle.m161_places.proofs.laws.go_alike.Goals as goal

pub returns : goal.returns
returns c = λ rules keys turns cursor s. go_alike rules keys turns cursor s
