use Rattle.m161_places.proofs.Turning.{is_by_turns}
use Rattle.m161_places.proofs.laws.is_by_turns.Goals as goal

pub returns : goal.returns
returns c = λ rules keys turns cursor s. is_by_turns rules keys turns cursor s
