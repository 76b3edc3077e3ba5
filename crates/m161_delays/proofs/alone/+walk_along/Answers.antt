use Rattle.std.proofs.Common.{◌≡◌, ◌∙◌, ◌++◌, ◌∷◌, [], ◌+◌, ◌-◌, ◌≤◌, suc, sym, ap, subst, length, arith}
use Rattle.std.specs.Prelude.{MatchOption, slice_index}
use Rattle.m161_order.specs.Delays.{delays_of}
use Rattle.m161_delays.specs.Lists.{times}
use Rattle.m161_delays.specs.helpers.Slicing.{AreMade, GoesAlong, IsBehindFrom, StopsSo}
use Rattle.m161_delays.specs.helpers.Walking.{IsLonger}
use Rattle.m161_delays.proofs.Slicing.{IsBelowFrom, along_first, along_itself, along_last, along_stop, along_useful, along_useless, first_least}
use Rattle.m161_delays.proofs.Walking.{ok_map}
use Rattle.m161_delays.specs.Runs.{StandsAt}
use Rattle.m161_delays.specs.helpers.Last.{last_from}
use Rattle.m161_delays.proofs.Points.{stands_copied, stands_longer, stands_on}
use Rattle.m161_delays.proofs.alone.+walk_along.Goals as goal
use Rattle.m161_delays.proofs.alone.+walk_along.Goals.{in-Some+in_ok-advance+in_ok-stop+in_default-stop, in_default}

pub returns-then-more-eq0-clause-ok : goal.returns-then-more-eq0-clause-ok
returns-then-more-eq0-clause-ok g t c =
    let runs = c.args.runs.now in
    ok_map c.judge_next.result
    (λ o h. along_itself c.args.class (g.T.Runs.offers runs) (g.T.Runs.right runs) (g.T.Runs.wrong runs) (delays_of c.args.delays) c.args.rest.now c.args.more
    c.args.limit c.args.sums.now c.judge_next.new.sums o c.if-more-eq0.true c.requires.useful h) c.judge_next.ensures.ok

pub loop-number-init : goal.loop-number-init
loop-number-init g t c =
    let runs = c.args.runs.now in
    let numbers = delays_of c.args.delays in
    let IsOn = g.T.Runs.is_on runs in
    record {
      made =
          along_first c.args.class (g.T.Runs.offers runs) (g.T.Runs.right runs) numbers c.args.rest.now c.args.more c.first_number-number.result c.args.limit
          c.args.sums.now
          ((g.met.T.Runs g.world.𝓛 g.world.𝓜 g.world.𝓡 ((λ s x. x), (λ x. x), (λ x. x), λ x. x)).alike runs) c.first_number-number.ensures;
      stands =
          stands_on IsOn numbers (last_from c.args.class.from numbers) c.first_number-number.result c.in_ok-on.on
          (first_least (last_from c.args.class.from numbers) c.args.rest.now c.first_number-number.result c.first_number-number.ensures)
          (stands_copied IsOn numbers (last_from c.args.class.from numbers) c.args.point.now c.in_ok-on.on c.in_ok-on.ensures.ok c.requires.point);
      least = let is = c.first_number-number.ensures in omega (arith, is);
    }

pub returns-clause-ok : goal.returns-clause-ok
returns-clause-ok g t c =
    let runs = c.args.runs.now in
    let offers = g.T.Runs.offers runs in
    let right = g.T.Runs.right runs in
    let numbers = delays_of c.args.delays in
    let rest = c.args.rest.now in
    let limit = c.args.limit in
    let m = c.args.more - 1 in
    let some : c.args.more ≡ suc m = omega (arith, c.if-more-eq0.false) in
    let end = c.loop-number-test.false in
    let counts = ap length (c.in_ok-offers.ensures.ok ∙ ap (λ xs. xs ++ offers numbers) c.new-counts.ensures.items) in
    let all = c.end_of_places-number-end.ensures.all in
    subst (λ k. AreMade (IsBehindFrom c.args.class offers numbers k rest) right limit c.args.sums.now c.loop-number.sums) (sym some)
    (along_last c.args.class offers right numbers rest m c.loop-number.number limit c.args.sums.now c.loop-number.sums
    ((g.met.T.Runs g.world.𝓛 g.world.𝓜 g.world.𝓡 ((λ s x. x), (λ x. x), (λ x. x), λ x. x)).alike runs)
    (λ n within there. let less = all n within (omega (arith, there, counts)) in omega (arith, less, end))
    (subst (λ k. AreMade (IsBelowFrom c.args.class offers numbers k rest c.loop-number.number) right limit c.args.sums.now c.loop-number.sums) some
    c.loop-number.invariant.made))

pub returns-in-Some-stop-clause-ok : goal.returns-in-Some-stop-clause-ok
returns-in-Some-stop-clause-ok g t c =
    let runs = c.args.runs.now in
    let class = c.args.class in
    let offers = g.T.Runs.offers runs in
    let right = g.T.Runs.right runs in
    let wrong = g.T.Runs.wrong runs in
    let numbers = delays_of c.args.delays in
    let rest = c.args.rest.now in
    let limit = c.args.limit in
    let k = c.loop-number.number in
    let m = c.args.more - 1 in
    let s = c.loop-number.sums in
    let u = c.walk_along.new.sums in
    let some : c.args.more ≡ suc m = omega (arith, c.if-more-eq0.false) in
    let least = last_from class.from numbers in
    let child : StopsSo (IsBehindFrom class offers (delays_of c.in-Some.longer) m c.rest_behind-left.result.now) right wrong limit s u c.in-Some-stop.stop =
    subst (GoesAlong (IsBehindFrom class offers (delays_of c.in-Some.longer) m c.rest_behind-left.result.now) right wrong limit s u) c.in-Some-stop.is c.in_ok-stop.ensures.ok in
    subst (λ j. StopsSo (IsBehindFrom class offers numbers j rest) right wrong limit c.args.sums.now u c.in-Some-stop.stop) (sym some)
    (along_stop class offers right wrong numbers rest m k least limit c.args.sums.now s u c.in-Some-stop.stop
    c.loop-number.invariant.least
    (subst (λ j. AreMade (IsBelowFrom class offers numbers j rest k) right limit c.args.sums.now s) some c.loop-number.invariant.made)
    (subst (λ r. StopsSo (IsBehindFrom class offers (numbers ++ k ∷ []) m r) right wrong limit s u c.in-Some-stop.stop) c.rest_behind-left.ensures
    (subst (λ xs. StopsSo (IsBehindFrom class offers xs m c.rest_behind-left.result.now) right wrong limit s u c.in-Some-stop.stop) c.in-Some.ensures.longer_is child)))

pub loop-number-preserved : goal.loop-number-preserved
loop-number-preserved g t c =
    let runs = c.args.runs.now in
    let class = c.args.class in
    let offers = g.T.Runs.offers runs in
    let right = g.T.Runs.right runs in
    let numbers = delays_of c.args.delays in
    let rest = c.args.rest.now in
    let limit = c.args.limit in
    let k = c.loop-number.number in
    let m = c.args.more - 1 in
    let some : c.args.more ≡ suc m = omega (arith, c.if-more-eq0.false) in
    let IsOn = g.T.Runs.is_on runs in
    let s = c.loop-number.sums in
    let before : AreMade (IsBelowFrom class offers numbers (suc m) rest k) right limit c.args.sums.now s =
    subst (λ j. AreMade (IsBelowFrom class offers numbers j rest k) right limit c.args.sums.now s) some c.loop-number.invariant.made in
    let made : AreMade (IsBelowFrom class offers numbers c.args.more rest (k + 1)) right limit c.args.sums.now c.match-useful_longer.sums =
    subst (λ j. AreMade (IsBelowFrom class offers numbers j rest (k + 1)) right limit c.args.sums.now c.match-useful_longer.sums) (sym some)
    (elim c.match-useful_longer.branch [
      | in-Some+in_ok-advance+in_ok-stop+in_default-stop w ↦
          let left = w.rest_behind-left.result.now in
          let u = w.walk_along.new.sums in
          let child : AreMade (IsBehindFrom class offers (delays_of w.in-Some.longer) m left) right limit s u =
          subst (GoesAlong (IsBehindFrom class offers (delays_of w.in-Some.longer) m left) right (g.T.Runs.wrong runs) limit s u)
          w.in_default-stop.is w.in_ok-stop.ensures.ok in
          subst (AreMade (IsBelowFrom class offers numbers (suc m) rest (k + 1)) right limit c.args.sums.now) (sym w.sums-is)
          (along_useful class offers right numbers rest m k (last_from class.from numbers) limit c.args.sums.now s u c.loop-number.invariant.least before
          (subst (λ r. AreMade (IsBehindFrom class offers (numbers ++ k ∷ []) m r) right limit s u) w.rest_behind-left.ensures
          (subst (λ xs. AreMade (IsBehindFrom class offers xs m left) right limit s u) w.in-Some.ensures.longer_is child)))
      | in_default w ↦
          let few : slice_index (offers numbers) k ≤ times k numbers + 1 =
          subst (λ o. MatchOption o (slice_index (offers numbers) k ≤ times k numbers + 1) (IsLonger class offers numbers k)) w.in_default.is c.useful_longer.ensures in
          subst (AreMade (IsBelowFrom class offers numbers (suc m) rest (k + 1)) right limit c.args.sums.now) (sym w.sums-is)
          (along_useless class offers right numbers rest m k limit c.args.sums.now s
          ((g.met.T.Runs g.world.𝓛 g.world.𝓜 g.world.𝓡 ((λ s x. x), (λ x. x), (λ x. x), λ x. x)).alike runs) few before)
    ]) in
    record {
      made = made;
      stands =
          stands_on IsOn numbers k (k + 1) c.match-useful_longer.on (omega arith)
          (elim c.match-useful_longer.branch [
            | in-Some+in_ok-advance+in_ok-stop+in_default-stop w ↦
                subst (StandsAt IsOn numbers k) (sym w.on-is) w.in_ok-advance.ensures.ok
            | in_default w ↦ subst (StandsAt IsOn numbers k) (sym w.on-is) c.loop-number.invariant.stands
          ]);
      least = let least = c.loop-number.invariant.least in omega (arith, least);
    }

pub advance-requires : goal.advance-requires
advance-requires g t c = c.loop-number.invariant.stands

pub walk_along-requires-clause-point : goal.walk_along-requires-clause-point
walk_along-requires-clause-point g t c κs bounds =
    stands_longer (g.T.Runs.is_on c.args.runs.now) c.args.class.from (delays_of c.args.delays) (delays_of c.in-Some.longer) c.loop-number.number
    c.advance.new.point c.in-Some.ensures.longer_is c.in_ok-advance.ensures.ok
