use Rattle.std.proofs.Common.{◌∙◌, ◌≡◌, [], ap, refl, subst, sym}
use Rattle.m161_judge.specs.Memory.{IsKeptOf}
use Rattle.m161_judge.specs.Verdict.{Criteria}
use Rattle.m161_machine.specs.History.{boot_fault}
use Rattle.s161_search.specs.Audits.{fault_of_audit}
use Rattle.s161_search.specs.helpers.Begun.{IsBareFault}
use Rattle.s161_search.specs.helpers.Inputs.{given_of}
use Rattle.s161_search.proofs.Failing.{unkept}
use Rattle.s161_search.proofs.start.start_steps.Goals as goal

pub returns-in-Ok-clause-ok : goal.returns-in-Ok-clause-ok
returns-in-Ok-clause-ok c = subst (λ (k : Criteria). IsKeptOf k c.args.booted.now [] c.in-Ok.steps) c.goal.ensures c.in-Ok.ensures

pub returns-in-Err-clause-err : goal.returns-in-Err-clause-err
returns-in-Err-clause-err c =
    let given = given_of c.args.inputs.now in
    let told : c.fault_of_audit.result ≡ fault_of_audit given.file given.conf.ram c.in-Err.error =
    c.fault_of_audit.ensures ∙ ap (λ file. fault_of_audit file given.conf.ram c.in-Err.error) c.deref.ensures.value in
    subst (IsBareFault given) (sym told)
    (unkept given c.args.booted.now (boot_fault given.file given.conf) c.goal.result.watches c.in-Err.error
    (ap (λ (x : Criteria). x.watches) c.goal.ensures) refl c.requires c.in-Err.ensures)
