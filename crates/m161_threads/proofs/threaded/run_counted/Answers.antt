use Rattle.std.proofs.Common.{◌∙◌, ap, sym, subst, ℕ, List, None, length}
use Rattle.std.proofs.lemmas.List.{length-map}
use Rattle.std.proofs.lemmas.Result.{err_from_is_err_and}
use Rattle.m161_cpu.specs.Processor.{Processor}
use Rattle.m161_machine.specs.State.{counts}
use Rattle.m161_cause.specs.declared.cause.Cause.TheVariants.{NoMemory}
use Rattle.m161_threads.specs.Runs.{FailsRun, Interleaves, IsOfRun}
use Rattle.m161_threads.specs.helpers.Runs.{IsChecked, Past}
use Rattle.m161_threads.specs.Shares.{SeatState}
use Rattle.m161_threads.specs.helpers.Work.{HasWorked}
use Rattle.m161_threads.proofs.Outcomes.{fails_at_once, fails_run, interleaves, length_places, told}
use Rattle.m161_threads.proofs.threaded.run_counted.Goals as goal

-- memory is no cause of a run that doesn't begin
memory : IsOfRun NoMemory
memory = (λ h. absurd (cc), λ h. absurd (cc))

pub returns-in-Err-clause-err : goal.returns-in-Err-clause-err
returns-in-Err-clause-err g c =
    let r = c.replay.ensures in
    fails_at_once c.args.machine NoMemory (told r.replay r.boot r.made r.last) memory

pub returns-in-Err-new-clause-err : goal.returns-in-Err-new-clause-err
returns-in-Err-new-clause-err g c =
    let r = c.replay.ensures in
    subst (FailsRun None c.args.machine NoMemory) (sym c.in-Err-new.ensures.err)
    (fails_at_once c.args.machine NoMemory (told r.replay r.boot r.made r.last) memory)

pub returns-in_err-report-in-Ok-run_seats-clause-err : goal.returns-in_err-report-in-Ok-run_seats-clause-err
returns-in_err-report-in-Ok-run_seats-clause-err g c =
    let machine = c.args.machine in
    let r = c.replay.ensures in
    let fault = c.in_err-report-in-Ok-run_seats in
    let given = err_from_is_err_and c.from_residual.result c.from_residual.ensures.1 in
    rw (given.1, given.2)
    (fails_run machine fault.field-0.0.machine c.in-Ok.before fault.field-0.0.cause (told r.replay r.boot r.made r.last)
    c.in-Ok.ensures fault.ensures.err)

pub returns-clause-err : goal.returns-clause-err
returns-clause-err g c =
    let machine = c.args.machine in
    let r = c.replay.ensures in
    fails_run machine c.checked_fault.result.machine c.in-Ok.before c.checked_fault.result.cause
    (told r.replay r.boot r.made r.last) c.in-Ok.ensures c.checked_fault.ensures

pub run_seats-requires-clause-seats : goal.run_seats-requires-clause-seats
run_seats-requires-clause-seats g c κs within =
    let cs = counts c.args.machine.state in
    c.in-Ok-new.parts.1.ok.0 ∙ ap length c.in-Ok-new.ensures.seats ∙ length_places 0 cs
    ∙ length-map c.args.machine.state.processors (λ (p : Processor). p.count) ∙ sym c.requires.quotas

pub returns-in-Ok-run_seats-clause-ok : goal.returns-in-Ok-run_seats-clause-ok
returns-in-Ok-run_seats-clause-ok g c =
    let machine = c.args.machine in
    let quotas = c.args.quotas.now in
    let tally = c.in-Ok-run_seats.tally in
    let seats = tally.seats.items in
    let made = tally.counts.items in
    let report = c.in_ok-report-in-Ok-run_seats.report in
    let said = c.in_ok-report-in-Ok-run_seats.ensures in
    let worked = subst (λ (places : List SeatState). HasWorked places quotas seats made) c.in-Ok-new.ensures.seats c.in-Ok-run_seats.ensures.worked in
    let checked = subst (λ (past : Past). IsChecked past seats made report.off report.machine) c.in-Ok.ensures said.ok in
    let r = c.replay.ensures in
    subst (λ (counts : List ℕ). Interleaves machine quotas counts report.off report.machine) (sym said.counts)
    (interleaves machine report.machine quotas seats made report.off (told r.replay r.boot r.made r.last) c.requires.quotas worked checked)
