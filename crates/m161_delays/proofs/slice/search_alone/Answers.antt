use Rattle.std.proofs.Common.{[], subst}
use Rattle.std.specs.Prelude.{None}
use Rattle.m161_delays.specs.Slices.{IsUsefulFrom}
use Rattle.m161_delays.specs.helpers.Slicing.{GoesAlong, StopsSo}
use Rattle.m161_delays.proofs.Slices.{whole_clean, whole_first}
use Rattle.m161_delays.proofs.slice.search_alone.Goals as goal

pub returns-in-None-clause-ok : goal.returns-in-None-clause-ok
returns-in-None-clause-ok g c =
    let runs = c.args.runs.now in
    let offers = g.T.Runs.offers runs in
    let right = g.T.Runs.right runs in
    let found = c.in_ok-right.field-0 in
    whole_clean c.args.class offers right None found.runs found.cut
    (subst (GoesAlong (IsUsefulFrom c.args.class offers []) right (g.T.Runs.wrong runs) None (record { runs = 0; cut = 0 }) (record { runs = found.runs; cut = found.cut }))
    c.in-None.is c.in_ok-right.ensures.ok)

pub returns-in-Some-Wrong-clause-ok : goal.returns-in-Some-Wrong-clause-ok
returns-in-Some-Wrong-clause-ok g c =
    let runs = c.args.runs.now in
    let offers = g.T.Runs.offers runs in
    let right = g.T.Runs.right runs in
    let found = c.in_ok-right.field-0 in
    whole_first c.args.class offers right (g.T.Runs.wrong runs) None (record { runs = 0; cut = 0 }) (record { runs = found.runs; cut = found.cut })
    c.in-Some-Wrong.delays c.in-Some-Wrong.wrong
    (subst (λ stop. StopsSo (IsUsefulFrom c.args.class offers []) right (g.T.Runs.wrong runs) None (record { runs = 0; cut = 0 }) (record { runs = found.runs; cut = found.cut }) stop)
    c.in-Some-Wrong.field-0-is
    (subst (GoesAlong (IsUsefulFrom c.args.class offers []) right (g.T.Runs.wrong runs) None (record { runs = 0; cut = 0 }) (record { runs = found.runs; cut = found.cut }))
    c.in-Some-Wrong.is c.in_ok-right.ensures.ok))
