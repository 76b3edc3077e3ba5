use Rattle.std.proofs.lemmas.Result.{err_from_is_err_and}
use Rattle.m161_judge.proofs.Keeping.{start_fault, start_good}
use Rattle.m161_judge.proofs.memory.start_audit.Goals as goal

pub returns-in_err-auditor-clause-err : goal.returns-in_err-auditor-clause-err
returns-in_err-auditor-clause-err g c =
    let p = err_from_is_err_and c.from_residual-in_err-auditor.result c.from_residual-in_err-auditor.ensures.1 in
    rw (p.1, p.2)
    (start_fault c.in_ok-core.core.state c.args.booted.now c.args.watches.now c.in_err-auditor.field-0.0 c.in_ok-core.ensures c.in_err-auditor.ensures)

pub returns-clause-good : goal.returns-clause-good
returns-clause-good g c =
    start_good c.in_ok-core.core.state c.args.booted.now c.args.watches.now c.in_ok-auditor.auditor c.in_ok-core.ensures c.in_ok-auditor.ensures
