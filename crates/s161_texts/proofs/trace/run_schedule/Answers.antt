use Rattle.std.proofs.Common.{inl, subst, sym}
use Rattle.std.proofs.lemmas.Result.{err_from_is_err_and}
use Rattle.s161_base.specs.Faults.{IsBootFault}
use Rattle.s161_texts.specs.Traces.{MakesSome}
use Rattle.s161_texts.specs.helpers.Scheduled.{MakesAll}
use Rattle.s161_texts.specs.helpers.Booted.{FailsRun}
use Rattle.s161_texts.proofs.Finishing.{booted_so, ends_so, not_booted, run_fails, run_prints, shared_so, without_filter}
use Rattle.s161_texts.proofs.trace.run_schedule.Goals as goal

pub returns-in_err-machine-clause-err : goal.returns-in_err-machine-clause-err
returns-in_err-machine-clause-err g c =
    let made = err_from_is_err_and c.from_residual.result c.from_residual.ensures.1 in
    let task = c.args.task.now in
    let file = c.args.file.now in
    let a = g.O.Write.contents c.args.output.now in
    ends_so (FailsRun task c.args.conf file (MakesSome c.args.events.now) (MakesAll c.args.events.now) a a) c.from_residual.result made.0 made.1
    (not_booted task c.args.conf file (MakesSome c.args.events.now) (MakesAll c.args.events.now) a made.0 (subst (IsBootFault file c.args.conf) (sym made.2) c.in_err-machine.ensures.fault))

pub returns-in_err-filter-clause-err : goal.returns-in_err-filter-clause-err
returns-in_err-filter-clause-err g c =
    let made = err_from_is_err_and c.from_residual-in_err-filter.result c.from_residual-in_err-filter.ensures.1 in
    let task = c.args.task.now in
    let file = c.args.file.now in
    let m = c.in_ok-machine.machine in
    let boots = booted_so file c.args.conf m c.in_ok-machine.ensures.ok in
    rw (made.1, made.2)
    (without_filter task c.args.conf file (MakesSome c.args.events.now) (MakesAll c.args.events.now) (g.O.Write.contents c.args.output.now) m.state boots c.in_err-filter.field-0.0 c.in_err-filter.ensures.err)

pub returns-in_err-filter-2-clause-err : goal.returns-in_err-filter-2-clause-err
returns-in_err-filter-2-clause-err g c =
    let made = err_from_is_err_and c.from_residual-in_err-filter-2.result c.from_residual-in_err-filter-2.ensures.1 in
    let task = c.args.task.now in
    let file = c.args.file.now in
    let m = c.in_ok-machine.machine in
    let boots = booted_so file c.args.conf m c.in_ok-machine.ensures.ok in
    rw (made.1, made.2)
    (without_filter task c.args.conf file (MakesSome c.args.events.now) (MakesAll c.args.events.now) (g.O.Write.contents c.args.output.now) m.state boots c.in_err-filter-2.field-0.0 (inl c.in_err-filter-2.ensures.err))

pub returns-clause-ok : goal.returns-clause-ok
returns-clause-ok g c =
    let task = c.args.task.now in
    let file = c.args.file.now in
    let m = c.in_ok-machine.machine in
    let boots = booted_so file c.args.conf m c.in_ok-machine.ensures.ok in
    run_prints task c.args.conf file (MakesSome c.args.events.now) (MakesAll c.args.events.now) (g.O.Write.contents c.args.output.now) m.state boots
    c.in_ok-filter-2.filter
    (shared_so task c.args.conf.ram file m.state (MakesAll c.args.events.now) c.in_ok-filter.filter c.in_ok-filter-2.filter c.in_ok-filter.ensures.ok c.in_ok-filter-2.ensures.ok.0 c.in_ok-filter-2.ensures.ok.1)
    c.print_schedule.new.machine.state (g.O.Write.contents c.print_schedule.new.output) c.print_schedule.result c.print_schedule.ensures.ok

pub returns-clause-err : goal.returns-clause-err
returns-clause-err g c =
    let task = c.args.task.now in
    let file = c.args.file.now in
    let m = c.in_ok-machine.machine in
    let boots = booted_so file c.args.conf m c.in_ok-machine.ensures.ok in
    run_fails task c.args.conf file (MakesSome c.args.events.now) (MakesAll c.args.events.now) (g.O.Write.contents c.args.output.now) m.state boots
    c.in_ok-filter-2.filter
    (shared_so task c.args.conf.ram file m.state (MakesAll c.args.events.now) c.in_ok-filter.filter c.in_ok-filter-2.filter c.in_ok-filter.ensures.ok c.in_ok-filter-2.ensures.ok.0 c.in_ok-filter-2.ensures.ok.1)
    c.print_schedule.new.machine.state (g.O.Write.contents c.print_schedule.new.output) c.print_schedule.result c.print_schedule.ensures.err
