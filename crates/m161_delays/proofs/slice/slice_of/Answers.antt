use Rattle.std.proofs.Common.{[], subst, arith}
use Rattle.m161_delays.specs.helpers.Slicing.{AreMade, GoesAlong, IsBehindFrom, StopsSo, rest_at}
use Rattle.m161_delays.proofs.Slices.{from_longer, from_none, from_stop, from_whole, reached}
use Rattle.m161_delays.proofs.slice.slice_of.Goals as goal

pub loop-long-init : goal.loop-long-init
loop-long-init g c =
    let runs = c.args.runs.now in
    record {
      made =
          from_none c.args.class (g.T.Runs.offers runs) (g.T.Runs.right runs) c.args.from.now c.first_length-long.result c.args.limit
          (record { runs = 0; cut = 0 }) (let is = c.first_length-long.ensures in omega (arith, is));
      least = let is = c.first_length-long.ensures in omega (arith, is);
    }

pub loop-long-preserved : goal.loop-long-preserved
loop-long-preserved g c =
    let runs = c.args.runs.now in
    let offers = g.T.Runs.offers runs in
    let right = g.T.Runs.right runs in
    let wrong = g.T.Runs.wrong runs in
    let n = c.loop-long.long in
    let s = c.loop-long.sums in
    let u = c.walk_along.new.sums in
    let from = c.args.from.now in
    let longer : AreMade (IsBehindFrom c.args.class offers [] n (rest_at from n)) right c.args.limit s u =
    subst (GoesAlong (IsBehindFrom c.args.class offers [] n (rest_at from n)) right wrong c.args.limit s u) c.in_default.is
    (subst (λ r. GoesAlong (IsBehindFrom c.args.class offers [] n r) right wrong c.args.limit s u c.in_ok-stop.field-0) c.rest_at-rest.ensures
    (subst (λ xs. GoesAlong (IsBehindFrom c.args.class offers xs n c.rest_at-rest.result.now) right wrong c.args.limit s u c.in_ok-stop.field-0)
    c.none-none.ensures c.in_ok-stop.ensures.ok)) in
    record {
      made = from_longer c.args.class offers right from n c.args.limit (record { runs = 0; cut = 0 }) s u (reached from n c.args.class.most c.loop-long.invariant.least (let less = c.loop-long-test.true in omega (arith, less)) c.requires) c.loop-long.invariant.made longer;
      least = let least = c.loop-long.invariant.least in omega (arith, least);
    }

pub returns-in-Some-clause-ok : goal.returns-in-Some-clause-ok
returns-in-Some-clause-ok g c =
    let runs = c.args.runs.now in
    let offers = g.T.Runs.offers runs in
    let right = g.T.Runs.right runs in
    let wrong = g.T.Runs.wrong runs in
    let n = c.loop-long.long in
    let s = c.loop-long.sums in
    let u = c.walk_along.new.sums in
    let from = c.args.from.now in
    let stops : StopsSo (IsBehindFrom c.args.class offers [] n (rest_at from n)) right wrong c.args.limit s u c.in-Some.stop =
    subst (GoesAlong (IsBehindFrom c.args.class offers [] n (rest_at from n)) right wrong c.args.limit s u) c.in-Some.is
    (subst (λ r. GoesAlong (IsBehindFrom c.args.class offers [] n r) right wrong c.args.limit s u c.in_ok-stop.field-0) c.rest_at-rest.ensures
    (subst (λ xs. GoesAlong (IsBehindFrom c.args.class offers xs n c.rest_at-rest.result.now) right wrong c.args.limit s u c.in_ok-stop.field-0)
    c.none-none.ensures c.in_ok-stop.ensures.ok)) in
    from_stop c.args.class offers right wrong from n c.args.limit (record { runs = 0; cut = 0 }) s u c.in-Some.stop
    (reached from n c.args.class.most c.loop-long.invariant.least (let less = c.loop-long-test.true in omega (arith, less)) c.requires) c.loop-long.invariant.made stops

pub returns-clause-ok : goal.returns-clause-ok
returns-clause-ok g c =
    let runs = c.args.runs.now in
    let offers = g.T.Runs.offers runs in
    let right = g.T.Runs.right runs in
    let end = c.loop-long-test.false in
    let from = c.args.from.now in
    from_whole c.args.class offers right from c.loop-long.long c.args.limit (record { runs = 0; cut = 0 }) c.loop-long.sums (omega (arith, end))
    c.loop-long.invariant.made
