use Rattle.m161_shorten.proofs.Ending.{ends_with_one}
use Rattle.m161_shorten.proofs.laws.ends_with_one.Goals as goal

pub returns : goal.returns
returns g c = λ judge is_kind each es. ends_with_one is_kind (g.J.Judge.judges judge) each es
