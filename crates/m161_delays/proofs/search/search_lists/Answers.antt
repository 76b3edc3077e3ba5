use Rattle.std.proofs.Common.{[], subst, arith}
use Rattle.m161_delays.specs.helpers.Walking.{AreCounted, IsBehind, IsFirstSo, Walks}
use Rattle.m161_delays.proofs.Lengths.{all_clean, first_of_all, none_shorter, one_longer}
use Rattle.m161_delays.proofs.search.search_lists.Goals as goal

pub loop-length-init : goal.loop-length-init
loop-length-init g c =
    let runs = c.args.runs.now in
    none_shorter c.args.class (g.T.Runs.offers runs) (g.T.Runs.right runs) (record { runs = 0; cut = 0 })

pub loop-length-preserved : goal.loop-length-preserved
loop-length-preserved g c =
    let runs = c.args.runs.now in
    let offers = g.T.Runs.offers runs in
    let right = g.T.Runs.right runs in
    let n = c.loop-length.length in
    let longer : AreCounted (IsBehind c.args.class offers [] n) right c.loop-length.sums c.walk.new.sums =
    subst (Walks (IsBehind c.args.class offers [] n) right (g.T.Runs.wrong runs) c.loop-length.sums c.walk.new.sums) c.in_default.is
    (subst (λ xs. Walks (IsBehind c.args.class offers xs n) right (g.T.Runs.wrong runs) c.loop-length.sums c.walk.new.sums c.in_ok-found.field-0) c.none.ensures
    c.in_ok-found.ensures.ok) in
    one_longer c.args.class offers right n (record { runs = 0; cut = 0 }) c.loop-length.sums c.walk.new.sums c.loop-length.invariant longer

pub returns-in-Some-clause-ok : goal.returns-in-Some-clause-ok
returns-in-Some-clause-ok g c =
    let runs = c.args.runs.now in
    let offers = g.T.Runs.offers runs in
    let right = g.T.Runs.right runs in
    let wrong = g.T.Runs.wrong runs in
    let n = c.loop-length.length in
    let first : IsFirstSo (IsBehind c.args.class offers [] n) right wrong c.in-Some.found =
    subst (Walks (IsBehind c.args.class offers [] n) right wrong c.loop-length.sums c.walk.new.sums) c.in-Some.is
    (subst (λ xs. Walks (IsBehind c.args.class offers xs n) right wrong c.loop-length.sums c.walk.new.sums c.in_ok-found.field-0) c.none.ensures
    c.in_ok-found.ensures.ok) in
    first_of_all c.args.class offers right wrong n (record { runs = 0; cut = 0 }) c.loop-length.sums c.in-Some.found c.loop-length.invariant first

pub returns-clause-ok : goal.returns-clause-ok
returns-clause-ok g c =
    let runs = c.args.runs.now in
    let end = c.loop-length-test.false in
    all_clean c.args.class (g.T.Runs.offers runs) (g.T.Runs.right runs) c.loop-length.length c.loop-length.sums.runs c.loop-length.sums.cut
    (omega (arith, end)) c.loop-length.invariant
