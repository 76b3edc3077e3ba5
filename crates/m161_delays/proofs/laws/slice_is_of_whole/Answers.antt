use Rattle.m161_delays.proofs.Joining.{is_of_whole}
use Rattle.m161_delays.proofs.laws.slice_is_of_whole.Goals as goal

pub returns : goal.returns
returns g c = λ class most slice.
    let runs = c.args._runs.now in
    is_of_whole class (g.T.Runs.offers runs) (g.T.Runs.right runs) (g.T.Runs.wrong runs) most slice
