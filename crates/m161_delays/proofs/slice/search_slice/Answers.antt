use Rattle.m161_delays.proofs.Slices.{is_slice}
use Rattle.m161_delays.proofs.Walking.{ok_map}
use Rattle.m161_delays.proofs.slice.search_slice.Goals as goal

pub returns-clause-ok : goal.returns-clause-ok
returns-clause-ok g c =
    let runs = c.args.runs.now in
    ok_map c.slice_of.result
    (λ slice h. is_slice c.args.class (g.T.Runs.offers runs) (g.T.Runs.right runs) (g.T.Runs.wrong runs) c.args.from.now c.args.most slice.runs slice.cut
    slice.stop h) c.slice_of.ensures.ok
