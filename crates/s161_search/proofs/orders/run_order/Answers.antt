use Rattle.std.proofs.Common.{◌≡◌, ◌∙◌, ap}
use Rattle.std.proofs.lemmas.Result.{IfOk-weaker}
use Rattle.m161_drive.specs.Choice.{cursor_at}
use Rattle.m161_drive.specs.Policy.{Rules}
use Rattle.m161_machine.specs.State.{CoreValue}
use Rattle.s161_search.specs.Given.{criteria_of}
use Rattle.s161_search.specs.Runs.{most_of}
use Rattle.s161_search.specs.helpers.Inputs.{given_of}
use Rattle.s161_search.proofs.Pointing.{begun_first, kept_again}
use Rattle.s161_search.proofs.Starting.{keys_behind, made_run}
use Rattle.s161_search.proofs.orders.run_order.Goals as goal

pub returns-clause-ok : goal.returns-clause-ok
returns-clause-ok c =
    let task = c.args.task in
    let given = given_of c.args.inputs.now in
    let start = c.args.start.now in
    let rules = c.in_ok-policy.policy in
    let begun = c.in_ok-begun.begun in
    let same = c.in_ok-begun.ensures in
    let cursor : c.new-cursor.result ≡ cursor_at rules begun.core.value.state =
    c.new-cursor.ensures ∙ ap (λ (k : CoreValue). cursor_at rules k.state) c.deref.ensures in
    IfOk-weaker c.judge_begun.result _ _
    (λ run h start_of.
    let s = start_of.0 in
    let started = start_of.2 in
    made_run task given c.args.order s start rules run c.in_ok-policy.ensures.ok start_of.1 started
    (h s start.core.value.state start.events.items started.first_is
    (keys_behind given s start rules (ap (λ (r : Rules). r.keys) c.in_ok-policy.ensures.ok) started)
    (begun_first rules (most_of task given) start.events.items start.core.value.state begun.core.value.state c.new-cursor.result begun.events.items same.0
    cursor same.1)
    (kept_again s (criteria_of given) start.events.items begun.events.items start.steps begun.steps same.1 same.2 started.kept)))
    c.judge_begun.ensures.ok
