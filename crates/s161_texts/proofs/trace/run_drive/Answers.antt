use Rattle.std.proofs.Common.{inl, subst, sym}
use Rattle.std.proofs.lemmas.Result.{err_from_is_err_and}
use Rattle.s161_base.specs.Faults.{BootsIn, IsBootFault}
use Rattle.s161_run.specs.Driven.{rules_of}
use Rattle.s161_texts.specs.Traces.{GoesSome}
use Rattle.s161_texts.specs.helpers.Driven.{GoesAll}
use Rattle.s161_texts.specs.helpers.Booted.{FailsRun, IsFilter, IsUnasked}
use Rattle.s161_texts.proofs.Finishing.{booted_so, ends_so, not_booted, run_fails, run_prints, shared_so, without_filter}
use Rattle.s161_texts.proofs.trace.run_drive.Goals as goal

pub returns-in_err-machine-clause-err : goal.returns-in_err-machine-clause-err
returns-in_err-machine-clause-err g c =
    let made = err_from_is_err_and c.from_residual.result c.from_residual.ensures.1 in
    let task = c.args.task.now in
    let file = c.args.read.now.file.items in
    let conf = c.args.read.now.first.conf in
    let a = g.O.Write.contents c.args.output.now in
    let rules = rules_of c.args.options c.args.read.now.keys.items in
    let first = c.args.read.now.first.events in
    ends_so (FailsRun task conf file (GoesSome rules c.args.options.events first) (GoesAll rules c.args.options.events first) a a) c.from_residual.result made.0 made.1
    (not_booted task conf file (GoesSome rules c.args.options.events first) (GoesAll rules c.args.options.events first) a made.0
    (subst (IsBootFault file conf) (sym made.2)
    (subst (λ bytes. IsBootFault bytes conf c.in_err-machine.field-0.0) c.deref.ensures.value c.in_err-machine.ensures.fault)))

pub returns-in_err-filter-clause-err : goal.returns-in_err-filter-clause-err
returns-in_err-filter-clause-err g c =
    let made = err_from_is_err_and c.from_residual-in_err-filter.result c.from_residual-in_err-filter.ensures.1 in
    let task = c.args.task.now in
    let file = c.args.read.now.file.items in
    let conf = c.args.read.now.first.conf in
    let m = c.in_ok-machine.machine in
    let boots = subst (λ bytes. BootsIn bytes conf m.state) c.deref.ensures.value (booted_so c.deref.result.now conf m c.in_ok-machine.ensures.ok) in
    let rules = rules_of c.args.options c.args.read.now.keys.items in
    let first = c.args.read.now.first.events in
    rw (made.1, made.2)
    (without_filter task conf file (GoesSome rules c.args.options.events first) (GoesAll rules c.args.options.events first) (g.O.Write.contents c.args.output.now) m.state boots c.in_err-filter.field-0.0
    (subst (λ bytes. IsUnasked task conf.ram bytes c.in_err-filter.field-0.0) c.deref-2.ensures.value c.in_err-filter.ensures.err))

pub returns-in_err-filter-2-clause-err : goal.returns-in_err-filter-2-clause-err
returns-in_err-filter-2-clause-err g c =
    let made = err_from_is_err_and c.from_residual-in_err-filter-2.result c.from_residual-in_err-filter-2.ensures.1 in
    let task = c.args.task.now in
    let file = c.args.read.now.file.items in
    let conf = c.args.read.now.first.conf in
    let m = c.in_ok-machine.machine in
    let boots = subst (λ bytes. BootsIn bytes conf m.state) c.deref.ensures.value (booted_so c.deref.result.now conf m c.in_ok-machine.ensures.ok) in
    let rules = rules_of c.args.options c.args.read.now.keys.items in
    let first = c.args.read.now.first.events in
    rw (made.1, made.2)
    (without_filter task conf file (GoesSome rules c.args.options.events first) (GoesAll rules c.args.options.events first) (g.O.Write.contents c.args.output.now) m.state boots c.in_err-filter-2.field-0.0 (inl c.in_err-filter-2.ensures.err))

pub returns-clause-ok : goal.returns-clause-ok
returns-clause-ok g c =
    let task = c.args.task.now in
    let file = c.args.read.now.file.items in
    let conf = c.args.read.now.first.conf in
    let m = c.in_ok-machine.machine in
    let boots = subst (λ bytes. BootsIn bytes conf m.state) c.deref.ensures.value (booted_so c.deref.result.now conf m c.in_ok-machine.ensures.ok) in
    let rules = rules_of c.args.options c.args.read.now.keys.items in
    let first = c.args.read.now.first.events in
    run_prints task conf file (GoesSome rules c.args.options.events first) (GoesAll rules c.args.options.events first) (g.O.Write.contents c.args.output.now) m.state boots
    c.in_ok-filter-2.filter
    (shared_so task conf.ram file m.state (GoesAll rules c.args.options.events first) c.in_ok-filter.filter c.in_ok-filter-2.filter
    (subst (λ bytes. IsFilter task conf.ram bytes c.in_ok-filter.filter) c.deref-2.ensures.value c.in_ok-filter.ensures.ok) c.in_ok-filter-2.ensures.ok.0 c.in_ok-filter-2.ensures.ok.1)
    c.print_drive.new.machine.state (g.O.Write.contents c.print_drive.new.output) c.print_drive.result c.print_drive.ensures.ok

pub returns-clause-err : goal.returns-clause-err
returns-clause-err g c =
    let task = c.args.task.now in
    let file = c.args.read.now.file.items in
    let conf = c.args.read.now.first.conf in
    let m = c.in_ok-machine.machine in
    let boots = subst (λ bytes. BootsIn bytes conf m.state) c.deref.ensures.value (booted_so c.deref.result.now conf m c.in_ok-machine.ensures.ok) in
    let rules = rules_of c.args.options c.args.read.now.keys.items in
    let first = c.args.read.now.first.events in
    run_fails task conf file (GoesSome rules c.args.options.events first) (GoesAll rules c.args.options.events first) (g.O.Write.contents c.args.output.now) m.state boots
    c.in_ok-filter-2.filter
    (shared_so task conf.ram file m.state (GoesAll rules c.args.options.events first) c.in_ok-filter.filter c.in_ok-filter-2.filter
    (subst (λ bytes. IsFilter task conf.ram bytes c.in_ok-filter.filter) c.deref-2.ensures.value c.in_ok-filter.ensures.ok) c.in_ok-filter-2.ensures.ok.0 c.in_ok-filter-2.ensures.ok.1)
    c.print_drive.new.machine.state (g.O.Write.contents c.print_drive.new.output) c.print_drive.result c.print_drive.ensures.err
