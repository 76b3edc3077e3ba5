use Rattle.std.proofs.Common.{◌∙◌, ◌++◌, ap}
use Rattle.std.specs.Prelude.{slice_get}
use Rattle.m161_drive.specs.Choice.{cursor_at}
use Rattle.m161_machine.specs.State.{CoreValue}
use Rattle.m161_order.specs.declared.order.Order.TheVariants as order
use Rattle.m161_order.specs.Delays.{delays_of}
use Rattle.m161_places.specs.Laws.{with_delays}
use Rattle.m161_places.specs.Places.{offers}
use Rattle.m161_places.proofs.Moving.{offers_apart}
use Rattle.s161_run.specs.Driven.{rules_of}
use Rattle.s161_search.specs.Runs.{most_of}
use Rattle.s161_search.specs.helpers.Inputs.{given_of}
use Rattle.s161_search.proofs.delays.DelayedRunsRuns.offers.Goals as goal

pub returns-clause-ok : goal.returns-clause-ok
returns-clause-ok c =
    let task = c.args.self.now.basis.now.task in
    let keys = (given_of c.args.self.now.basis.now.inputs.now).keys in
    let rules = rules_of task.drive keys in
    let s = c.args.self.now.basis.now.start.now.core.value.state in
    let turns = c.args.self.now.turns in
    let n = most_of task (given_of c.args.self.now.basis.now.inputs.now) in
    let policy = c.in_ok-policy.ensures.ok in
    let state = c.in_ok-core.ensures.state ∙ ap (λ (k : CoreValue). k.state) c.deref.ensures in
    c.in_ok-offers.ensures
    ∙ ap (λ xs. c.args.counts.now.items ++ xs)
    ((λ i. offers (c.most.ensures i) (policy i) (slice_get (policy i).keys) (cursor_at (policy i) (state i)) (state i))
    ∙ offers_apart rules (order.Delayed turns c.args.delays.now) (slice_get keys) n
    (with_delays (record { steps = turns; made = 0 }) (delays_of c.args.delays.now) (cursor_at rules s)) s)
