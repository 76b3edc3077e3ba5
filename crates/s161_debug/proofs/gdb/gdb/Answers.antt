use Rattle.std.proofs.Common.{inl, refl, subst, sym}
use Rattle.std.proofs.lemmas.Result.{err_from_is_err_and}
use Rattle.s161_base.proofs.Asking.{IsNoFile, after_all}
use Rattle.s161_base.specs.declared.fault.Fault.TheVariants.{Memory}
use Rattle.s161_debug.specs.Gdb.{gdb_files}
use Rattle.s161_debug.proofs.Asking.{told_is_none}
use Rattle.s161_debug.proofs.gdb.gdb.Goals as goal

pub returns-in_err-opened-clause-fault : goal.returns-in_err-opened-clause-fault
returns-in_err-opened-clause-fault g c =
    let made = err_from_is_err_and c.from_residual.result c.from_residual.ensures.1 in
    rw (made.1, made.2) (inl (c.in_err-opened.ensures.fault, (refl, refl)))

pub returns-in_err-opened-clause-asks : goal.returns-in_err-opened-clause-asks
returns-in_err-opened-clause-asks g c =
    let made = err_from_is_err_and c.from_residual.result c.from_residual.ensures.1 in
    rw (made.1, made.2) c.in_err-opened.ensures.asks

-- all files were asked for
pub returns-in_err-replay-clause-asks : goal.returns-in_err-replay-clause-asks
returns-in_err-replay-clause-asks g c =
    let asked = g.F.FileSource.asked in
    let made = err_from_is_err_and c.from_residual-in_err-replay.result c.from_residual-in_err-replay.ensures.1 in
    rw (made.1, made.2)
    (after_all (gdb_files c.args.task) (asked c.args.files.now) (asked c.open_run.new.files) Memory c.in_ok-opened.ensures.asks tt)

pub returns-clause-asks : goal.returns-clause-asks
returns-clause-asks g c =
    let asked = g.F.FileSource.asked in
    after_all (gdb_files c.args.task) (asked c.args.files.now) (asked c.open_run.new.files) c.told_as.result c.in_ok-opened.ensures.asks
    (subst IsNoFile (sym c.told_as.ensures) (told_is_none c.in-Err.fault))
