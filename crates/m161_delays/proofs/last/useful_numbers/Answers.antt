use Rattle.std.proofs.Common.{◌≡◌, ◌∙◌, ap, sym, subst, ◌+◌, ◌^◌, ◌≤◌, ◌<◌, ◌∷◌, [], ◌++◌, length, arith, rules}
use Rattle.std.specs.Prelude.{MatchOption, slice_index}
use Rattle.m161_order.specs.Delays.{delays_of}
use Rattle.m161_delays.specs.Lists.{times}
use Rattle.m161_delays.specs.helpers.Walking.{IsLonger}
use Rattle.m161_delays.proofs.Batches.{AreNextBelow, next_all, next_none, next_useful, next_useless}
use Rattle.m161_delays.proofs.last.useful_numbers.Goals as goal
use Rattle.m161_delays.proofs.last.useful_numbers.Goals.{in-Some+in_ok-push, in_default}

pub loop-number-init : goal.loop-number-init
loop-number-init g c =
    let runs = c.args.runs.now in
    let offers = g.T.Runs.offers runs in
    let numbers = delays_of c.args.delays.now in
    let alike = (g.met.T.Runs g.world.𝓛 g.world.𝓜 g.world.𝓡 ((λ s x. x), (λ x. x), (λ x. x), λ x. x)).alike runs in
    subst (AreNextBelow c.args.class offers numbers c.least_behind-number.result) (sym c.new-numbers.ensures.items)
    (next_none c.args.class offers numbers c.least_behind-number.result alike c.least_behind-number.ensures)

pub loop-number-preserved : goal.loop-number-preserved
loop-number-preserved g c =
    let runs = c.args.runs.now in
    let offers = g.T.Runs.offers runs in
    let numbers = delays_of c.args.delays.now in
    let k = c.loop-number.number in
    let alike = (g.met.T.Runs g.world.𝓛 g.world.𝓜 g.world.𝓡 ((λ s x. x), (λ x. x), (λ x. x), λ x. x)).alike runs in
    elim c.match-useful_longer.branch [
      | in-Some+in_ok-push w ↦
          let more : c.match-useful_longer.numbers.items ≡ c.loop-number.numbers.items ++ k ∷ [] = ap (λ v. v.items) w.numbers-is ∙ w.in_ok-push.ensures.items in
          let least = c.loop-number.auto.number in
          let first = c.least_behind-number.ensures in
          let fits : k + 1 < 2 ^ 32 = search rules in
          next_useful c.args.class offers numbers k c.loop-number.numbers.items c.match-useful_longer.numbers.items w.in-Some._longer
          (omega (arith, least, first)) fits w.in-Some.ensures more c.loop-number.invariant
      | in_default w ↦
          let few : slice_index (offers numbers) k ≤ times k numbers + 1 =
          subst (λ o. MatchOption o (slice_index (offers numbers) k ≤ times k numbers + 1) (IsLonger c.args.class offers numbers k)) w.in_default.is c.useful_longer.ensures in
          let same : c.loop-number.numbers.items ≡ c.match-useful_longer.numbers.items = ap (λ v. v.items) (sym w.numbers-is) in
          subst (AreNextBelow c.args.class offers numbers (k + 1)) same
          (next_useless c.args.class offers numbers k c.loop-number.numbers.items alike few c.loop-number.invariant)
    ]

pub returns : goal.returns
returns g c =
    let runs = c.args.runs.now in
    let offers = g.T.Runs.offers runs in
    let numbers = delays_of c.args.delays.now in
    let alike = (g.met.T.Runs g.world.𝓛 g.world.𝓜 g.world.𝓡 ((λ s x. x), (λ x. x), (λ x. x), λ x. x)).alike runs in
    let end = c.loop-number-test.false in
    let counts = ap length c.requires.counts in
    let all = c.end_of_places-number-end.ensures.all in
    next_all c.args.class offers numbers c.loop-number.number c.loop-number.numbers.items alike
    (λ n within there. let less = all n within (omega (arith, there, counts)) in omega (arith, less, end)) c.loop-number.invariant
