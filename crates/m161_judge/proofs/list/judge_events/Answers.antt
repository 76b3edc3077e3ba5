use Rattle.std.proofs.Common.{refl}
use Rattle.std.specs.Prelude.{Ok, Err}
use Rattle.std.proofs.lemmas.Result.{err_from_is_err_and}
use Rattle.m161_machine.specs.History.{boot_fault}
use Rattle.m161_judge.proofs.Finding.{judges_as, list_made, list_refused, list_unfound, list_unwalked}
use Rattle.m161_judge.proofs.list.judge_events.Goals as goal

pub returns-in_err-of_steps : goal.returns-in_err-of_steps
returns-in_err-of_steps g c = λ file conf boots.
    let events = c.args.events.now in
    let made = err_from_is_err_and c.from_residual.result c.from_residual.ensures.1 in
    rw (made.1, made.2)
    (list_unfound file conf (boot_fault file conf) c.args.booted.now events c.args.goal.now c.in_err-of_steps.field-0.0 boots
    (judges_as c.args.goal.now c.args.goal.now c.core.result.now.state c.args.booted.now events events (Err c.in_err-of_steps.field-0.0)
    refl c.core.ensures refl c.in_err-of_steps.ensures))

pub returns-in_err-walk_copy : goal.returns-in_err-walk_copy
returns-in_err-walk_copy g c = λ file conf boots.
    let made = err_from_is_err_and c.from_residual-in_err-walk_copy.result c.from_residual-in_err-walk_copy.ensures.1 in
    rw (made.1, made.2)
    (list_unwalked file conf (boot_fault file conf) c.args.booted.now c.args.events.now c.args.goal.now c.in_err-walk_copy.field-0.0 boots
    c.in_err-walk_copy.ensures)

pub returns-in-Refused : goal.returns-in-Refused
returns-in-Refused g c = λ file conf boots.
    let events = c.args.events.now in
    list_refused file conf (boot_fault file conf) c.args.booted.now events c.args.goal.now c.in_ok-of_steps.of_steps c.in_ok-walk_copy.field-0 boots
    (judges_as c.args.goal.now c.args.goal.now c.core.result.now.state c.args.booted.now events events (Ok c.in_ok-of_steps.of_steps)
    refl c.core.ensures refl c.in_ok-of_steps.ensures)
    c.in_ok-walk_copy.ensures c.in-Refused.is

pub returns-in-Made : goal.returns-in-Made
returns-in-Made g c = λ file conf boots.
    let events = c.args.events.now in
    list_made file conf (boot_fault file conf) c.args.booted.now events c.args.goal.now c.in_ok-walk_copy.field-0 c.in_ok-of_steps.of_steps
    c.in-Made.beside c.first_verdict.result boots
    (judges_as c.args.goal.now c.args.goal.now c.core.result.now.state c.args.booted.now events events (Ok c.in_ok-of_steps.of_steps)
    refl c.core.ensures refl c.in_ok-of_steps.ensures)
    c.in_ok-walk_copy.ensures c.in-Made.is (c.first_verdict.ensures c.args.goal.now c.args.booted.now events)
