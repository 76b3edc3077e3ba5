use Rattle.std.proofs.Common.{arith, subst}
use Rattle.std.proofs.lemmas.Result.{err_from_is_err_and}
use Rattle.s161_texts.specs.helpers.Scheduled.{Turn}
use Rattle.s161_texts.proofs.Scheduling.{alike_more, fails_more, made_all, none_alike, number_alike, refused_then}
use Rattle.s161_texts.proofs.scheduled.trace_alike.Goals as goal

pub loop-made-init : goal.loop-made-init
loop-made-init g c = none_alike c.args.lines.now (g.O.Write.contents c.args.output.now) c.args.event c.args.machine.now.state c.requires.step

pub trace_event-requires-clause-step : goal.trace_event-requires-clause-step
trace_event-requires-clause-step g c = c.loop-made.invariant.prints.tracer_is

pub trace_event-requires-clause-few : goal.trace_event-requires-clause-few
trace_event-requires-clause-few g c =
    let few = c.requires.few in
    let less = c.loop-made-test.true in
    omega (
      arith,
      few,
      less,
      number_alike c.args.lines.now (g.O.Write.contents c.args.output.now) c.args.event c.loop-made.made
          c.loop-made.machine.state c.loop-made.lines (g.O.Write.contents c.loop-made.output) c.loop-made.invariant,
    )

pub loop-made-preserved : goal.loop-made-preserved
loop-made-preserved g c =
    let t = c.loop-made.machine.state in
    let k = c.loop-made.lines in
    let b = g.O.Write.contents c.loop-made.output in
    let u = c.trace_event.new.machine.state in
    let j = c.trace_event.new.lines in
    let x = g.O.Write.contents c.trace_event.new.output in
    let turn = subst (λ refusal. Turn t k b c.args.event refusal u j x) c.in_default.is c.in_ok-refusal.ensures.ok in
    alike_more c.args.lines.now (g.O.Write.contents c.args.output.now) c.args.event c.loop-made.made t k b c.loop-made.invariant u x j turn

pub returns-in-Some-clause-ok : goal.returns-in-Some-clause-ok
returns-in-Some-clause-ok g c =
    let t = c.loop-made.machine.state in
    let k = c.loop-made.lines in
    let b = g.O.Write.contents c.loop-made.output in
    let u = c.trace_event.new.machine.state in
    let j = c.trace_event.new.lines in
    let x = g.O.Write.contents c.trace_event.new.output in
    let turn = subst (λ refusal. Turn t k b c.args.event refusal u j x) c.in-Some.is c.in_ok-refusal.ensures.ok in
    refused_then c.args.lines.now (g.O.Write.contents c.args.output.now) c.args.event c.loop-made.made t k b c.loop-made.invariant u x c.args.times
    c.in-Some.refusal j c.loop-made-test.true turn

pub returns-in_err-refusal-clause-err : goal.returns-in_err-refusal-clause-err
returns-in_err-refusal-clause-err g c =
    let made = err_from_is_err_and c.from_residual.result c.from_residual.ensures.1 in
    rw (made.1, made.2)
    (fails_more c.args.lines.now (g.O.Write.contents c.args.output.now) c.args.event c.loop-made.made c.loop-made.machine.state c.loop-made.lines
    (g.O.Write.contents c.loop-made.output) c.loop-made.invariant c.trace_event.new.machine.state (g.O.Write.contents c.trace_event.new.output)
    c.args.times c.in_err-refusal.field-0.0 c.loop-made-test.true c.in_err-refusal.ensures.err)

pub returns-clause-ok : goal.returns-clause-ok
returns-clause-ok g c =
    let all = c.loop-made-test.false in
    let most = c.loop-made.auto.made-end in
    made_all c.args.lines.now (g.O.Write.contents c.args.output.now) c.args.event c.loop-made.made c.loop-made.machine.state c.loop-made.lines
    (g.O.Write.contents c.loop-made.output) c.loop-made.invariant c.args.times (omega (arith, all, most))
