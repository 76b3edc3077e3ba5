use Rattle.std.proofs.Common.{subst, sym}
use Rattle.std.proofs.lemmas.Result.{err_from_is_err_and}
use Rattle.s161_base.proofs.Asking.{IsNoFile, after_all, none_before}
use Rattle.s161_work.specs.Works.{files_of}
use Rattle.s161_work.proofs.printing.print_task.Goals as goal

pub returns-in_err-finished-clause-asks : goal.returns-in_err-finished-clause-asks
returns-in_err-finished-clause-asks g c =
    let made = err_from_is_err_and c.from_residual.result c.from_residual.ensures.1 in
    rw (made.1, made.2) c.in_err-finished.ensures.asks

pub returns-in_err-finished-clause-before : goal.returns-in_err-finished-clause-before
returns-in_err-finished-clause-before g c =
    let made = err_from_is_err_and c.from_residual.result c.from_residual.ensures.1 in
    rw (made.1, made.2) c.in_err-finished.ensures.before

-- the output failed
pub returns-in_err-send-clause-asks : goal.returns-in_err-send-clause-asks
returns-in_err-send-clause-asks g c =
    let made = err_from_is_err_and c.from_residual-in_err-send.result c.from_residual-in_err-send.ensures.1 in
    rw (made.1, made.2)
    (after_all (files_of c.args.task) (g.F.FileSource.asked c.args.files.now) (g.F.FileSource.asked c.finish.new.files) c.in_err-send.field-0.0 c.in_ok-finished.ensures.asks
    (subst IsNoFile (sym c.in_err-send.ensures.err.0) tt))

pub returns-in_err-send-clause-before : goal.returns-in_err-send-clause-before
returns-in_err-send-clause-before g c =
    let made = err_from_is_err_and c.from_residual-in_err-send.result c.from_residual-in_err-send.ensures.1 in
    rw (made.1, made.2)
    (none_before c.in_err-send.field-0.0 (g.I.Read.remaining c.args.input.now) (g.I.Read.remaining c.finish.new.input) (subst IsNoFile (sym c.in_err-send.ensures.err.0) tt))
