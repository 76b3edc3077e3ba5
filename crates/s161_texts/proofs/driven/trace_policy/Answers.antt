use Rattle.std.proofs.Common.{◌∙◌, ap, subst}
use Rattle.std.proofs.lemmas.Result.{err_from_is_err_and}
use Rattle.m161_drive.specs.Choice.{cursor_at}
use Rattle.s161_texts.specs.helpers.Driven.{Turn}
use Rattle.s161_texts.proofs.Driving.{begins, failed, goes_on, number_few, stopped}
use Rattle.s161_texts.proofs.driven.trace_policy.Goals as goal

pub loop-made-init : goal.loop-made-init
loop-made-init g c =
    begins c.args.policy.now c.args.machine.now.state c.args.lines.now (g.O.Write.contents c.args.output.now) c.new-cursor.result
    (c.new-cursor.ensures ∙ ap (cursor_at c.args.policy.now) c.core.ensures) c.requires.step

pub trace_once-requires-clause-step : goal.trace_once-requires-clause-step
trace_once-requires-clause-step g c = c.loop-made.invariant.prints.tracer_is

pub trace_once-requires-clause-few : goal.trace_once-requires-clause-few
trace_once-requires-clause-few g c =
    number_few c.args.lines.now c.loop-made.lines (g.O.Write.contents c.args.output.now) (g.O.Write.contents c.loop-made.output) c.loop-made.invariant.entries
    c.args.machine.now.state c.loop-made.machine.state c.requires.step c.loop-made.invariant.prints c.requires.few

pub loop-made-preserved : goal.loop-made-preserved
loop-made-preserved g c =
    let t = c.loop-made.machine.state in
    let k = c.loop-made.lines in
    let b = g.O.Write.contents c.loop-made.output in
    let d = c.trace_once.new.cursor in
    let u = c.trace_once.new.machine.state in
    let j = c.trace_once.new.lines in
    let x = g.O.Write.contents c.trace_once.new.output in
    let turn = subst (λ stop. Turn c.args.policy.now c.loop-made.cursor t k b stop d u j x) c.in_default.is c.in_ok-stop.ensures.ok in
    goes_on c.args.policy.now c.args.most c.args.machine.now.state c.args.lines.now (g.O.Write.contents c.args.output.now) c.loop-made.made
    c.loop-made.cursor t k b c.loop-made.invariant d u j x turn

pub returns-in-Some-clause-ok : goal.returns-in-Some-clause-ok
returns-in-Some-clause-ok g c =
    let t = c.loop-made.machine.state in
    let k = c.loop-made.lines in
    let b = g.O.Write.contents c.loop-made.output in
    let d = c.trace_once.new.cursor in
    let u = c.trace_once.new.machine.state in
    let j = c.trace_once.new.lines in
    let x = g.O.Write.contents c.trace_once.new.output in
    let turn = subst (λ stop. Turn c.args.policy.now c.loop-made.cursor t k b stop d u j x) c.in-Some.is c.in_ok-stop.ensures.ok in
    stopped c.args.policy.now c.args.most c.args.machine.now.state c.args.lines.now (g.O.Write.contents c.args.output.now) c.loop-made.made
    c.loop-made.cursor t k b c.loop-made.invariant d c.in-Some.stop u j x c.loop-made-test.true turn

pub returns-in_err-stop-clause-err : goal.returns-in_err-stop-clause-err
returns-in_err-stop-clause-err g c =
    let made = err_from_is_err_and c.from_residual.result c.from_residual.ensures.1 in
    rw (made.1, made.2)
    (failed c.args.policy.now c.args.most c.args.machine.now.state c.args.lines.now (g.O.Write.contents c.args.output.now) c.loop-made.made
    c.loop-made.cursor c.loop-made.machine.state c.loop-made.lines (g.O.Write.contents c.loop-made.output) c.loop-made.invariant
    c.trace_once.new.cursor c.trace_once.new.machine.state (g.O.Write.contents c.trace_once.new.output) c.in_err-stop.field-0.0
    c.loop-made-test.true c.in_err-stop.ensures.err)
