use Rattle.std.proofs.Common.{◌∙◌, ◌≡◌, ap, Err, Ok, refl, subst, sym}
use Rattle.m161_machine.specs.History.{boot_fault}
use Rattle.s161_search.specs.Audits.{fault_of_audit}
use Rattle.s161_search.specs.helpers.Begun.{IsBareFault}
use Rattle.s161_search.specs.helpers.Inputs.{given_of}
use Rattle.s161_search.proofs.Failing.{unbooted}
use Rattle.s161_search.proofs.Judging.{boots_as}
use Rattle.s161_search.proofs.seeds.boot.Goals as goal

pub returns-in-Ok-clause-ok : goal.returns-in-Ok-clause-ok
returns-in-Ok-clause-ok c =
    let given = given_of c.args.inputs.now in
    boots_as c.deref.result.now given.file given.conf given.conf (Ok c.in-Ok.booted) c.deref.ensures.value refl c.in-Ok.ensures

pub returns-in-Err-clause-fault : goal.returns-in-Err-clause-fault
returns-in-Err-clause-fault c =
    let given = given_of c.args.inputs.now in
    let told : c.fault_of_audit.result ≡ fault_of_audit given.file given.conf.ram c.in-Err.error =
    c.fault_of_audit.ensures ∙ ap (λ file. fault_of_audit file given.conf.ram c.in-Err.error) c.deref-in-Err.ensures.value in
    subst (IsBareFault given) (sym told)
    (unbooted given (boot_fault given.file given.conf) c.in-Err.error refl
    (boots_as c.deref.result.now given.file given.conf given.conf (Err c.in-Err.error) c.deref.ensures.value refl c.in-Err.ensures))
