use Rattle.std.proofs.Common.{refl, inl}
use Rattle.std.proofs.lemmas.Result.{err_from_is_err_and}
use Rattle.s161_texts.specs.Traces.{MakesSome}
use Rattle.s161_texts.specs.helpers.Scheduled.{MakesAll}
use Rattle.s161_texts.proofs.Finishing.{all_fail, all_printed, some_fail}
use Rattle.s161_texts.proofs.scheduled.print_schedule.Goals as goal

pub trace_events-requires-clause-step : goal.trace_events-requires-clause-step
trace_events-requires-clause-step g c = c.in_ok-lines.ensures.2

pub trace_events-requires-clause-first : goal.trace_events-requires-clause-first
trace_events-requires-clause-first g c = c.in_ok-lines.ensures.1

pub returns-in_err-lines-clause-err : goal.returns-in_err-lines-clause-err
returns-in_err-lines-clause-err g c =
    let made = err_from_is_err_and c.from_residual.result c.from_residual.ensures.1 in
    rw (made.1, made.2) (inl (refl, refl))

pub returns-in_err-stop-clause-err : goal.returns-in_err-stop-clause-err
returns-in_err-stop-clause-err g c =
    let made = err_from_is_err_and c.from_residual-in_err-stop.result c.from_residual-in_err-stop.ensures.1 in
    let fails = c.in_err-stop.ensures.err in
    rw (made.1, made.2)
    (some_fail c.args.filter _ c.args.machine.now.state c.in_ok-lines.lines c.in_ok-lines.ensures (MakesSome c.args.events.now) (MakesAll c.args.events.now) fails.entries
    c.trace_events.new.machine.state (g.O.Write.contents c.args.output.now) (g.O.Write.contents c.trace_events.new.output) c.in_err-stop.field-0.0 fails.some fails.fails)

pub returns-in_err-finish-clause-err : goal.returns-in_err-finish-clause-err
returns-in_err-finish-clause-err g c =
    let made = err_from_is_err_and c.from_residual-in_err-finish.result c.from_residual-in_err-finish.ensures.1 in
    let all = c.in_ok-stop.ensures.ok in
    rw (made.1, made.2)
    (all_fail c.args.filter _ c.args.machine.now.state c.in_ok-lines.lines c.in_ok-lines.ensures (MakesSome c.args.events.now) (MakesAll c.args.events.now) all.entries
    c.trace_events.new.machine.state (g.O.Write.contents c.args.output.now) (g.O.Write.contents c.trace_events.new.output) (g.O.Write.contents c.finish.new.output)
    c.trace_events.new.lines all.prints c.in_ok-stop.stop all.makes c.in_err-finish.field-0.0 c.in_err-finish.ensures.err)

pub returns-clause-ok : goal.returns-clause-ok
returns-clause-ok g c =
    let all = c.in_ok-stop.ensures.ok in
    all_printed c.args.filter _ c.args.machine.now.state c.in_ok-lines.lines c.in_ok-lines.ensures (MakesSome c.args.events.now) (MakesAll c.args.events.now) all.entries
    c.trace_events.new.machine.state (g.O.Write.contents c.args.output.now) (g.O.Write.contents c.trace_events.new.output) (g.O.Write.contents c.finish.new.output)
    c.trace_events.new.lines all.prints c.in_ok-stop.stop all.makes c.in_ok-finish.ensures.ok
