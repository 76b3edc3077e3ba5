use Rattle.m161_delays.proofs.Joining.{are_joined}
use Rattle.m161_delays.proofs.laws.slices_join.Goals as goal

pub returns : goal.returns
returns g c = λ class from most more first second.
    let runs = c.args._runs.now in
    are_joined class (g.T.Runs.offers runs) (g.T.Runs.right runs) (g.T.Runs.wrong runs) from most more first second
