use Rattle.std.proofs.Common.{◌≡◌, ◌∙◌, ap, arith, refl, rules, subst, sym}
use Rattle.std.proofs.lemmas.Result.{err_from_is_err_and}
use Rattle.s161_run.specs.declared.events.RunStop.{RunStop}
use Rattle.s161_run.specs.Runs.{stop_off}
use Rattle.s161_texts.specs.helpers.Scheduled.{PrintsSchedule}
use Rattle.s161_texts.proofs.Scheduling.{ended_then, fails_then, made_none, made_then, off_then, passed_then, refused_at, within_then}
use Rattle.s161_texts.proofs.scheduled.trace_events.Goals as goal

pub loop-event-init : goal.loop-event-init
loop-event-init g c = (
  made_none c.args.lines.now (g.O.Write.contents c.args.output.now) c.args.events.now c.args.machine.now.state c.requires.step,
  refl,
  omega arith,
  c.runs-left.ensures.all,
)

pub trace_alike-requires-clause-step : goal.trace_alike-requires-clause-step
trace_alike-requires-clause-step g c = c.loop-event.invariant.0.prints.tracer_is

pub returns-then-is_off-was_off-clause-ok : goal.returns-then-is_off-was_off-clause-ok
returns-then-is_off-was_off-clause-ok g c =
    let before = c.loop-event.invariant in
    let s = c.args.machine.now.state in
    let l = c.args.lines.now in
    let a = g.O.Write.contents c.args.output.now in
    let u = c.trace_alike.new.machine.state in
    let j = c.trace_alike.new.lines in
    let x = g.O.Write.contents c.trace_alike.new.output in
    let is = c.stop_off.ensures ∙ ap stop_off c.conflict.ensures in
    subst (λ (stop : RunStop). PrintsSchedule s l a c.args.events.now stop u j x) (sym is)
    (off_then s l a c.requires.step c.args.events.now c.loop-event.made c.loop-event.machine.state c.loop-event.lines (g.O.Write.contents c.loop-event.output)
    before.0 c.loop-event.left c.next.new.self c.in-Some.times c.in-Some.event before.3 c.in-Some.ensures.steps.0 u x c.in_ok-alike.alike j
    c.in_ok-alike.ensures.ok (search rules))

pub returns-in-Some-1₀-clause-ok : goal.returns-in-Some-1₀-clause-ok
returns-in-Some-1₀-clause-ok g c =
    let before = c.loop-event.invariant in
    refused_at c.args.machine.now.state c.args.lines.now (g.O.Write.contents c.args.output.now) c.requires.step c.args.events.now c.loop-event.made
    c.loop-event.machine.state c.loop-event.lines (g.O.Write.contents c.loop-event.output) before.0 c.loop-event.left c.next.new.self c.in-Some.times
    c.in-Some.event before.3 c.in-Some.ensures.steps.0 c.trace_alike.new.machine.state (g.O.Write.contents c.trace_alike.new.output)
    c.in_ok-alike.alike c.trace_alike.new.lines c.in_ok-alike.ensures.ok c.in-Some-1₀.refusal (search rules) (search rules)

pub returns-in_err-alike-clause-err : goal.returns-in_err-alike-clause-err
returns-in_err-alike-clause-err g c =
    let made = err_from_is_err_and c.from_residual.result c.from_residual.ensures.1 in
    let before = c.loop-event.invariant in
    rw (made.1, made.2)
    (fails_then c.args.machine.now.state c.args.lines.now (g.O.Write.contents c.args.output.now) c.requires.step c.args.events.now c.loop-event.made
    c.loop-event.machine.state c.loop-event.lines (g.O.Write.contents c.loop-event.output) before.0 c.loop-event.left c.next.new.self c.in-Some.times
    c.in-Some.event before.3 c.in-Some.ensures.steps.0 c.trace_alike.new.machine.state (g.O.Write.contents c.trace_alike.new.output)
    c.in_err-alike.field-0.0 c.in_err-alike.ensures.err)

pub loop-event-preserved : goal.loop-event-preserved
loop-event-preserved g c =
    let before = c.loop-event.invariant in
    let s = c.args.machine.now.state in
    let l = c.args.lines.now in
    let a = g.O.Write.contents c.args.output.now in
    let events = c.args.events.now in
    let made = c.loop-event.made in
    let t = c.loop-event.machine.state in
    let k = c.loop-event.lines in
    let b = g.O.Write.contents c.loop-event.output in
    let rest = c.loop-event.left in
    let after = c.next.new.self in
    let times = c.in-Some.times in
    let e = c.in-Some.event in
    let same = c.in-Some.ensures.steps.0 in
    let u = c.trace_alike.new.machine.state in
    let x = g.O.Write.contents c.trace_alike.new.output in
    let alike = c.in_ok-alike.alike in
    let j = c.trace_alike.new.lines in
    let turns = c.in_ok-alike.ensures.ok in
    let all : alike.0 ≡ times = search rules in (
      made_then s l a c.requires.step events made t k b before.0 rest after times e before.3 same u x alike j turns,
      search rules,
      within_then s l a c.requires.step events made t k b before.0 rest after times e before.3 same u x alike j turns before.2 all,
      passed_then s l a c.requires.step events made t k b before.0 rest after times e before.3 same u x alike j turns all,
    )

pub returns-clause-ok : goal.returns-clause-ok
returns-clause-ok g c =
    let before = c.loop-event.invariant in
    ended_then c.args.machine.now.state c.args.lines.now (g.O.Write.contents c.args.output.now) c.requires.step c.args.events.now c.loop-event.made
    c.loop-event.machine.state c.loop-event.lines (g.O.Write.contents c.loop-event.output) before.0 c.loop-event.left before.3
    c.in_default.ensures.steps.0 before.2 before.1
