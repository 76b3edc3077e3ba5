use Rattle.std.proofs.lemmas.Result.{err_from_is_err_and}
use Rattle.s161_work.proofs.printing.finish_schedule.Goals as goal

pub returns-in_err-schedule-clause-asks : goal.returns-in_err-schedule-clause-asks
returns-in_err-schedule-clause-asks g c =
    let made = err_from_is_err_and c.from_residual.result c.from_residual.ensures.1 in
    rw (made.1, made.2) c.in_err-schedule.ensures.asks
