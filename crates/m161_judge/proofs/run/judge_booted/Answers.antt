use Rattle.std.proofs.Common.{refl, ap, subst}
use Rattle.std.specs.Prelude.{Ok, Err}
use Rattle.std.proofs.lemmas.Result.{err_from_is_err_and}
use Rattle.m161_machine.specs.History.{boot_fault}
use Rattle.m161_judge.specs.Judge.{bytes_of}
use Rattle.m161_judge.specs.Verdict.{Criteria}
use Rattle.m161_judge.specs.helpers.Walk.{DrivesRun}
use Rattle.m161_judge.proofs.Finding.{judges_as, run_judged, run_undriven, run_unfound}
use Rattle.m161_judge.proofs.run.judge_booted.Goals as goal

pub returns-in_err-run : goal.returns-in_err-run
returns-in_err-run g c = λ file conf boots.
    let made = err_from_is_err_and c.from_residual.result c.from_residual.ensures.1 in
    rw (made.1, made.2)
    (run_undriven file conf (boot_fault file conf) c.args.booted.now c.args.policy.now c.args.n c.args.goal.now (bytes_of c.goal.inside.output)
    c.in_err-run.field-0.0 boots c.in_err-run.ensures)

pub returns-in_err-of_steps : goal.returns-in_err-of_steps
returns-in_err-of_steps g c = λ file conf boots.
    let made = err_from_is_err_and c.from_residual-in_err-of_steps.result c.from_residual-in_err-of_steps.ensures.1 in
    rw (made.1, made.2)
    (run_unfound file conf (boot_fault file conf) c.args.booted.now c.args.policy.now c.args.n c.in_ok-run.run'.events.items c.args.goal.now
    c.in_err-of_steps.field-0.0 boots
    (judges_as c.args.goal.now c.args.goal.now c.core.result.now.state c.args.booted.now c.deref.result.now c.in_ok-run.run'.events.items
    (Err c.in_err-of_steps.field-0.0) refl c.core.ensures c.deref.ensures.value c.in_err-of_steps.ensures))

pub returns : goal.returns
returns g c = λ file conf boots.
    let run = c.in_ok-run.run' in
    let output = ap (λ (x : Criteria). x.output) c.goal.view_is in
    run_judged file conf (boot_fault file conf) c.args.booted.now c.args.policy.now c.args.n c.args.goal.now run
    c.in_ok-of_steps.of_steps c.first_verdict.result boots
    (subst (λ o. DrivesRun c.args.policy.now c.args.n o c.args.booted.now (Ok run)) output c.in_ok-run.ensures)
    (judges_as c.args.goal.now c.args.goal.now c.core.result.now.state c.args.booted.now c.deref.result.now run.events.items
    (Ok c.in_ok-of_steps.of_steps) refl c.core.ensures c.deref.ensures.value c.in_ok-of_steps.ensures)
    c.first_verdict.ensures
