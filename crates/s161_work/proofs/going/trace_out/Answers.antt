use Rattle.std.proofs.lemmas.Result.{err_from_is_err_and}
use Rattle.s161_work.proofs.going.trace_out.Goals as goal

pub returns-in_err-stop-clause-asks : goal.returns-in_err-stop-clause-asks
returns-in_err-stop-clause-asks g c =
    let made = err_from_is_err_and c.from_residual.result c.from_residual.ensures.1 in
    rw (made.1, made.2) c.in_err-stop.ensures.asks

pub returns-in_err-stop-clause-before : goal.returns-in_err-stop-clause-before
returns-in_err-stop-clause-before g c =
    let made = err_from_is_err_and c.from_residual.result c.from_residual.ensures.1 in
    rw (made.1, made.2) c.in_err-stop.ensures.unread
