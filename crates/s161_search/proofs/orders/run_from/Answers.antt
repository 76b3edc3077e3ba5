use Rattle.std.proofs.Common.{ap}
use Rattle.std.proofs.lemmas.Result.{IfOk-weaker}
use Rattle.m161_drive.specs.Policy.{Rules}
use Rattle.m161_order.specs.declared.order.Order.TheVariants.{Delayed}
use Rattle.s161_search.specs.Given.{criteria_of}
use Rattle.s161_search.specs.helpers.Inputs.{given_of}
use Rattle.s161_search.proofs.Pointing.{begun as begun_at, kept_again}
use Rattle.s161_search.proofs.Starting.{keys_behind, made_run}
use Rattle.s161_search.proofs.orders.run_from.Goals as goal

pub returns-clause-ok : goal.returns-clause-ok
returns-clause-ok c =
    let task = c.args.task in
    let given = given_of c.args.inputs.now in
    let start = c.args.start.now in
    let point = c.args.point.now in
    let rules = c.in_ok-policy.policy in
    let begun = c.in_ok-begun.begun in
    let same = c.in_ok-begun.ensures in
    IfOk-weaker c.judge_begun.result _ _
    (λ run h at start_of.
    let s = start_of.0 in
    let started = start_of.2 in
    made_run task given (Delayed c.args.turns c.args.delays.now) s start rules run c.in_ok-policy.ensures.ok start_of.1 started
    (h s start.core.value.state start.events.items started.first_is
    (keys_behind given s start rules (ap (λ (r : Rules). r.keys) c.in_ok-policy.ensures.ok) started)
    (begun_at start begun.core.value.state task given c.args.turns c.args.delays.now rules point c.in-Some.cursor begun.events.items c.in_ok-policy.ensures.ok
    c.in-Some.ensures same.0 same.1 at)
    (kept_again s (criteria_of given) point.events.items begun.events.items point.steps begun.steps same.1 same.2 (at.kept s started))))
    c.judge_begun.ensures.ok
