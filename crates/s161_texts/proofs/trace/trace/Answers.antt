use Rattle.std.proofs.lemmas.Result.{err_from_is_err_and}
use Rattle.s161_base.proofs.Asking.{before_input}
use Rattle.s161_texts.proofs.Asking.{without_drive}
use Rattle.s161_texts.proofs.trace.trace.Goals as goal

pub returns-in_err-stop-in-Some-clause-fault : goal.returns-in_err-stop-in-Some-clause-fault
returns-in_err-stop-in-Some-clause-fault g c =
    let made = err_from_is_err_and c.from_residual.result c.from_residual.ensures.1 in
    rw (made.1, made.2) (c.in_err-stop-in-Some.ensures.fault (g.I.Read.remaining c.args.input.now))

pub returns-in_ok-stop-in-Some-clause-ok : goal.returns-in_ok-stop-in-Some-clause-ok
returns-in_ok-stop-in-Some-clause-ok g c = c.in_ok-stop-in-Some.ensures.ok (g.I.Read.remaining c.args.input.now)

pub returns-in_err-stop-in-Some-clause-asks : goal.returns-in_err-stop-in-Some-clause-asks
returns-in_err-stop-in-Some-clause-asks g c =
    let made = err_from_is_err_and c.from_residual.result c.from_residual.ensures.1 in
    rw (made.1, made.2, c.in-Some.is) c.in_err-stop-in-Some.ensures.asks

-- the input isn't read
pub returns-in_err-stop-in-Some-clause-unread : goal.returns-in_err-stop-in-Some-clause-unread
returns-in_err-stop-in-Some-clause-unread g c =
    let made = err_from_is_err_and c.from_residual.result c.from_residual.ensures.1 in
    rw (made.1, made.2) (before_input c.in_err-stop-in-Some.field-0.0 (g.I.Read.remaining c.args.input.now))

pub returns-in_ok-stop-in-Some-clause-asks : goal.returns-in_ok-stop-in-Some-clause-asks
returns-in_ok-stop-in-Some-clause-asks g c = rw c.in-Some.is c.in_ok-stop-in-Some.ensures.asks

pub returns-in-None-clause-asks : goal.returns-in-None-clause-asks
returns-in-None-clause-asks g c =
    let asked = g.F.FileSource.asked in
    without_drive c.args.task c.args.task.drive c.trace_schedule.result (asked c.args.files.now) (asked c.trace_schedule.new.files) c.in-None.is c.trace_schedule.ensures.asks
