use Rattle.std.proofs.Common.{◌∙◌, ap, subst, arith}
use Rattle.std.specs.Prelude.{string_bytes}
use Rattle.m161_drive.specs.Choice.{cursor_at}
use Rattle.m161_c.specs.helpers.Turns.{TracesNext}
use Rattle.m161_c.proofs.Driving.{begins_trace, trace_stopped, traces_on}
use Rattle.m161_c.proofs.driven.trace.Goals as goal

pub loop-made-init : goal.loop-made-init
loop-made-init c = (
  begins_trace c.args.style.now c.args.loads c.args.policy.now c.args.machine.now (string_bytes c.args.text.now) c.new-cursor.result
      (c.new-cursor.ensures ∙ ap (cursor_at c.args.policy.now) c.core.ensures) (let last = c.replay.ensures.last in omega (arith, last)),
  c.in_ok-tracer.ensures,
)

pub trace_next-requires : goal.trace_next-requires
trace_next-requires c = c.loop-made.invariant.1

pub loop-made-preserved : goal.loop-made-preserved
loop-made-preserved c =
    let d = c.trace_next.new.cursor in
    let j = c.trace_next.new.machine in
    let x = string_bytes c.trace_next.new.text in
    let b = string_bytes c.loop-made.text in (
      traces_on c.args.style.now c.args.loads c.args.policy.now c.args.n c.args.machine.now (string_bytes c.args.text.now) c.loop-made.made c.loop-made.cursor
          c.loop-made.machine b c.loop-made.invariant.0 d j x
          (subst (λ stop. TracesNext c.args.style.now c.args.loads c.args.policy.now c.loop-made.cursor c.loop-made.machine b stop d j x) c.in_default.is
          c.in_ok-stop.ensures.turn),
      c.in_ok-stop.ensures.step,
    )

pub returns-in-Some : goal.returns-in-Some
returns-in-Some c =
    let d = c.trace_next.new.cursor in
    let j = c.trace_next.new.machine in
    let x = string_bytes c.trace_next.new.text in
    let b = string_bytes c.loop-made.text in
    trace_stopped c.args.style.now c.args.loads c.args.policy.now c.args.n c.args.machine.now (string_bytes c.args.text.now) c.loop-made.made c.loop-made.cursor
    c.loop-made.machine b c.loop-made.invariant.0 d c.in-Some.stop j x c.loop-made-test.true
    (subst (λ stop. TracesNext c.args.style.now c.args.loads c.args.policy.now c.loop-made.cursor c.loop-made.machine b stop d j x) c.in-Some.is
    c.in_ok-stop.ensures.turn)
