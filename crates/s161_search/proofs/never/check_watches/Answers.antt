use Rattle.std.proofs.Common.{◌∙◌, ◌≡◌, ap, [], Err, Ok, refl, subst, sym}
use Rattle.m161_judge.specs.Judge.{Judges}
use Rattle.m161_machine.specs.History.{boot_fault}
use Rattle.s161_search.specs.helpers.Inputs.{given_of}
use Rattle.s161_search.specs.Audits.{fault_of_audit}
use Rattle.s161_search.specs.helpers.Begun.{IsBareFault}
use Rattle.s161_search.proofs.Failing.{judge_failed, judged_good}
use Rattle.s161_search.proofs.never.check_watches.Goals as goal

pub returns-in-Ok-clause-good : goal.returns-in-Ok-clause-good
returns-in-Ok-clause-good c =
    let given = given_of c.args.inputs.now in
    let conf = given.conf in
    judged_good given [] (boot_fault given.file conf) c.in-Ok.field-0
    (subst (λ g. Judges given.file conf (boot_fault given.file conf) [] g (Ok c.in-Ok.field-0)) c.goal.ensures
    (c.in-Ok.ensures given.file conf c.requires))

pub returns-in-Err-clause-fault : goal.returns-in-Err-clause-fault
returns-in-Err-clause-fault c =
    let given = given_of c.args.inputs.now in
    let conf = given.conf in
    let told : c.fault_of_audit.result ≡ fault_of_audit given.file given.conf.ram c.in-Err.error =
    c.fault_of_audit.ensures ∙ ap (λ file. fault_of_audit file given.conf.ram c.in-Err.error) c.deref.ensures.value in
    subst (IsBareFault given) (sym told)
    (judge_failed given [] (boot_fault given.file conf) c.in-Err.error refl
    (subst (λ g. Judges given.file conf (boot_fault given.file conf) [] g (Err c.in-Err.error)) c.goal.ensures
    (c.in-Err.ensures given.file conf c.requires)))
