use Rattle.std.proofs.Common.{refl, inl}
use Rattle.std.proofs.lemmas.Result.{err_from_is_err_and}
use Rattle.s161_run.specs.Driven.{rules_of}
use Rattle.s161_texts.specs.Traces.{GoesSome}
use Rattle.s161_texts.specs.helpers.Driven.{GoesAll}
use Rattle.s161_texts.proofs.Finishing.{all_fail, all_printed, some_fail}
use Rattle.s161_texts.proofs.driven.print_drive.Goals as goal

pub trace_behind-requires-clause-step : goal.trace_behind-requires-clause-step
trace_behind-requires-clause-step g c = c.in_ok-lines.ensures.2

pub trace_behind-requires-clause-first : goal.trace_behind-requires-clause-first
trace_behind-requires-clause-first g c = c.in_ok-lines.ensures.1

pub returns-in_err-lines-clause-err : goal.returns-in_err-lines-clause-err
returns-in_err-lines-clause-err g c =
    let made = err_from_is_err_and c.from_residual.result c.from_residual.ensures.1 in
    rw (made.1, made.2) (inl (refl, refl))

pub returns-in_err-stop-clause-err : goal.returns-in_err-stop-clause-err
returns-in_err-stop-clause-err g c =
    let made = err_from_is_err_and c.from_residual-in_err-stop.result c.from_residual-in_err-stop.ensures.1 in
    let fails = c.in_err-stop.ensures.err in
    let rules = rules_of c.args.options c.args.read.now.keys.items in
    let first = c.args.read.now.first.events in
    rw (made.1, made.2)
    (some_fail c.args.filter _ c.args.machine.now.state c.in_ok-lines.lines c.in_ok-lines.ensures (GoesSome rules c.args.options.events first) (GoesAll rules c.args.options.events first) fails.entries
    c.trace_behind.new.machine.state (g.O.Write.contents c.args.output.now) (g.O.Write.contents c.trace_behind.new.output) c.in_err-stop.field-0.0 fails.some fails.fails)

pub returns-in_err-finish-clause-err : goal.returns-in_err-finish-clause-err
returns-in_err-finish-clause-err g c =
    let made = err_from_is_err_and c.from_residual-in_err-finish.result c.from_residual-in_err-finish.ensures.1 in
    let all = c.in_ok-stop.ensures.ok in
    let rules = rules_of c.args.options c.args.read.now.keys.items in
    let first = c.args.read.now.first.events in
    rw (made.1, made.2)
    (all_fail c.args.filter _ c.args.machine.now.state c.in_ok-lines.lines c.in_ok-lines.ensures (GoesSome rules c.args.options.events first) (GoesAll rules c.args.options.events first) all.entries
    c.trace_behind.new.machine.state (g.O.Write.contents c.args.output.now) (g.O.Write.contents c.trace_behind.new.output) (g.O.Write.contents c.finish.new.output)
    c.trace_behind.new.lines all.prints c.in_ok-stop.stop all.goes c.in_err-finish.field-0.0 c.in_err-finish.ensures.err)

pub returns-clause-ok : goal.returns-clause-ok
returns-clause-ok g c =
    let all = c.in_ok-stop.ensures.ok in
    let rules = rules_of c.args.options c.args.read.now.keys.items in
    let first = c.args.read.now.first.events in
    all_printed c.args.filter _ c.args.machine.now.state c.in_ok-lines.lines c.in_ok-lines.ensures (GoesSome rules c.args.options.events first) (GoesAll rules c.args.options.events first) all.entries
    c.trace_behind.new.machine.state (g.O.Write.contents c.args.output.now) (g.O.Write.contents c.trace_behind.new.output) (g.O.Write.contents c.finish.new.output)
    c.trace_behind.new.lines all.prints c.in_ok-stop.stop all.goes c.in_ok-finish.ensures.ok
