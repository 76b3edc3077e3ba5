use Rattle.std.proofs.Common.{◌∙◌, ◌++◌, ap}
use Rattle.std.specs.Prelude.{slice_get}
use Rattle.m161_drive.specs.Choice.{cursor_at}
use Rattle.m161_order.specs.declared.order.Order.TheVariants as order
use Rattle.m161_order.specs.Delays.{delays_of}
use Rattle.m161_places.specs.Laws.{with_delays}
use Rattle.m161_places.specs.Places.{offers}
use Rattle.m161_places.proofs.Moving.{offers_apart}
use Rattle.m161_c.specs.Driven.{rules_in}
use Rattle.m161_c.proofs.lists.ListRunsRuns.offers.Goals as goal

pub returns-clause-ok : goal.returns-clause-ok
returns-clause-ok c =
    let a = c.args.self.now.task.now in
    let rules = rules_in a.numbers (order.Turns c.args.self.now.turns) a.goal.keys in
    let s = c.args.self.now.booted.now in
    let turns = c.args.self.now.turns in
    let policy = c.in_ok-policy.ensures in
    let state = c.in_ok-core.ensures in
    c.in_ok-offers.ensures
    ∙ ap (λ xs. c.args.counts.now.items ++ xs)
    ((λ i. offers (c.most.ensures i) (policy i) (slice_get (policy i).keys) (cursor_at (policy i) (state i)) (state i))
    ∙ offers_apart rules (order.Delayed turns c.args.delays.now) (slice_get a.goal.keys) a.events
    (with_delays (record { steps = turns; made = 0 }) (delays_of c.args.delays.now) (cursor_at rules s)) s)
