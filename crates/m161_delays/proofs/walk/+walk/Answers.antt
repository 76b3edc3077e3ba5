use Rattle.std.proofs.Common.{◌≡◌, ◌∙◌, ◌++◌, ◌+◌, ◌-◌, ◌≤◌, suc, sym, ap, subst, length, arith}
use Rattle.std.specs.Prelude.{MatchOption, slice_index}
use Rattle.m161_order.specs.Delays.{delays_of}
use Rattle.m161_delays.specs.Lists.{times}
use Rattle.m161_delays.specs.helpers.Walking.{AreCounted, IsBehind, IsBehindBelow, IsFirstSo, IsLonger, Walks}
use Rattle.m161_delays.proofs.Walking.{at_first, at_last, at_useful, at_useless, found_child, ok_map, walks_itself}
use Rattle.m161_delays.specs.Runs.{StandsAt}
use Rattle.m161_delays.specs.helpers.Last.{last_from}
use Rattle.m161_delays.proofs.Points.{stands_copied, stands_longer, stands_on}
use Rattle.m161_delays.proofs.walk.+walk.Goals as goal
use Rattle.m161_delays.proofs.walk.+walk.Goals.{in-Some+in_ok-advance+in_ok-found+in_default-2, in_default}

pub returns-then-more-eq0-clause-ok : goal.returns-then-more-eq0-clause-ok
returns-then-more-eq0-clause-ok g t c =
    let runs = c.args.runs.now in
    ok_map c.judge.result
    (λ o h. walks_itself c.args.class (g.T.Runs.offers runs) (g.T.Runs.right runs) (g.T.Runs.wrong runs) (delays_of c.args.delays) c.args.more c.args.sums.now
    c.judge.new.sums o c.if-more-eq0.true c.requires.useful h) c.judge.ensures.ok

pub loop-number-init : goal.loop-number-init
loop-number-init g t c =
    let runs = c.args.runs.now in
    let numbers = delays_of c.args.delays in
    let IsOn = g.T.Runs.is_on runs in
    record {
      counted =
          at_first c.args.class (g.T.Runs.offers runs) (g.T.Runs.right runs) (delays_of c.args.delays) c.args.more c.least_behind-number.result c.args.sums.now
          ((g.met.T.Runs g.world.𝓛 g.world.𝓜 g.world.𝓡 ((λ s x. x), (λ x. x), (λ x. x), λ x. x)).alike runs) c.least_behind-number.ensures;
      stands =
          subst (λ k. StandsAt IsOn numbers k c.in_ok-on.on) (sym c.least_behind-number.ensures)
          (stands_copied IsOn numbers (last_from c.args.class.from numbers) c.args.point.now c.in_ok-on.on c.in_ok-on.ensures.ok c.requires.point);
    }

pub returns-clause-ok : goal.returns-clause-ok
returns-clause-ok g t c =
    let runs = c.args.runs.now in
    let offers = g.T.Runs.offers runs in
    let right = g.T.Runs.right runs in
    let numbers = delays_of c.args.delays in
    let m = c.args.more - 1 in
    let some : c.args.more ≡ suc m = omega (arith, c.if-more-eq0.false) in
    let end = c.loop-number-test.false in
    let counts = ap length (c.in_ok-offers.ensures.ok ∙ ap (λ xs. xs ++ offers numbers) c.new-counts.ensures.items) in
    let all = c.end_of_places-number-end.ensures.all in
    subst (λ k. AreCounted (IsBehind c.args.class offers numbers k) right c.args.sums.now c.loop-number.sums) (sym some)
    (at_last c.args.class offers right numbers m c.loop-number.number c.args.sums.now c.loop-number.sums ((g.met.T.Runs g.world.𝓛 g.world.𝓜 g.world.𝓡 ((λ s x. x), (λ x. x), (λ x. x), λ x. x)).alike runs)
    (λ n within there. let less = all n within (omega (arith, there, counts)) in omega (arith, less, end))
    (subst (λ k. AreCounted (IsBehindBelow c.args.class offers numbers k c.loop-number.number) right c.args.sums.now c.loop-number.sums) some
    c.loop-number.invariant.counted))

pub returns-in-Some-2-clause-ok : goal.returns-in-Some-2-clause-ok
returns-in-Some-2-clause-ok g t c =
    let runs = c.args.runs.now in
    let offers = g.T.Runs.offers runs in
    let right = g.T.Runs.right runs in
    let wrong = g.T.Runs.wrong runs in
    let numbers = delays_of c.args.delays in
    let k = c.loop-number.number in
    let m = c.args.more - 1 in
    let some : c.args.more ≡ suc m = omega (arith, c.if-more-eq0.false) in
    let child : IsFirstSo (IsBehind c.args.class offers (delays_of c.in-Some.longer) m) right wrong c.in-Some-2.found =
    subst (Walks (IsBehind c.args.class offers (delays_of c.in-Some.longer) m) right wrong c.loop-number.sums c.walk.new.sums) c.in-Some-2.is c.in_ok-found.ensures.ok in
    subst (λ j. IsFirstSo (IsBehind c.args.class offers numbers j) right wrong c.in-Some-2.found) (sym some)
    (found_child c.args.class offers right wrong numbers m k c.args.sums.now c.loop-number.sums c.in-Some-2.found
    (subst (λ j. AreCounted (IsBehindBelow c.args.class offers numbers j k) right c.args.sums.now c.loop-number.sums) some c.loop-number.invariant.counted)
    (subst (λ xs. IsFirstSo (IsBehind c.args.class offers xs m) right wrong c.in-Some-2.found) c.in-Some.ensures.longer_is child))

pub loop-number-preserved : goal.loop-number-preserved
loop-number-preserved g t c =
    let runs = c.args.runs.now in
    let class = c.args.class in
    let offers = g.T.Runs.offers runs in
    let right = g.T.Runs.right runs in
    let numbers = delays_of c.args.delays in
    let k = c.loop-number.number in
    let m = c.args.more - 1 in
    let some : c.args.more ≡ suc m = omega (arith, c.if-more-eq0.false) in
    let IsOn = g.T.Runs.is_on runs in
    let before : AreCounted (IsBehindBelow class offers numbers (suc m) k) right c.args.sums.now c.loop-number.sums =
    subst (λ j. AreCounted (IsBehindBelow class offers numbers j k) right c.args.sums.now c.loop-number.sums) some c.loop-number.invariant.counted in
    let counted : AreCounted (IsBehindBelow class offers numbers c.args.more (k + 1)) right c.args.sums.now c.match-useful_longer.sums =
    subst (λ j. AreCounted (IsBehindBelow class offers numbers j (k + 1)) right c.args.sums.now c.match-useful_longer.sums) (sym some)
    (elim c.match-useful_longer.branch [
      | in-Some+in_ok-advance+in_ok-found+in_default-2 w ↦
          let child : AreCounted (IsBehind class offers (delays_of w.in-Some.longer) m) right c.loop-number.sums w.walk.new.sums =
          subst (Walks (IsBehind class offers (delays_of w.in-Some.longer) m) right (g.T.Runs.wrong runs) c.loop-number.sums w.walk.new.sums)
          w.in_default-2.is w.in_ok-found.ensures.ok in
          subst (AreCounted (IsBehindBelow class offers numbers (suc m) (k + 1)) right c.args.sums.now) (sym w.sums-is)
          (at_useful class offers right numbers m k c.args.sums.now c.loop-number.sums w.walk.new.sums before
          (subst (λ xs. AreCounted (IsBehind class offers xs m) right c.loop-number.sums w.walk.new.sums) w.in-Some.ensures.longer_is child))
      | in_default w ↦
          let few : slice_index (offers numbers) k ≤ times k numbers + 1 =
          subst (λ o. MatchOption o (slice_index (offers numbers) k ≤ times k numbers + 1) (IsLonger class offers numbers k)) w.in_default.is c.useful_longer.ensures in
          subst (AreCounted (IsBehindBelow class offers numbers (suc m) (k + 1)) right c.args.sums.now) (sym w.sums-is)
          (at_useless class offers right numbers m k c.args.sums.now c.loop-number.sums ((g.met.T.Runs g.world.𝓛 g.world.𝓜 g.world.𝓡 ((λ s x. x), (λ x. x), (λ x. x), λ x. x)).alike runs) few before)
    ]) in
    record {
      counted = counted;
      stands =
          stands_on IsOn numbers k (k + 1) c.match-useful_longer.on (omega arith)
          (elim c.match-useful_longer.branch [
            | in-Some+in_ok-advance+in_ok-found+in_default-2 w ↦
                subst (StandsAt IsOn numbers k) (sym w.on-is) w.in_ok-advance.ensures.ok
            | in_default w ↦ subst (StandsAt IsOn numbers k) (sym w.on-is) c.loop-number.invariant.stands
          ]);
    }

pub advance-requires : goal.advance-requires
advance-requires g t c = c.loop-number.invariant.stands

pub walk-requires-clause-point : goal.walk-requires-clause-point
walk-requires-clause-point g t c κs bounds =
    stands_longer (g.T.Runs.is_on c.args.runs.now) c.args.class.from (delays_of c.args.delays) (delays_of c.in-Some.longer) c.loop-number.number
    c.advance.new.point c.in-Some.ensures.longer_is c.in_ok-advance.ensures.ok
