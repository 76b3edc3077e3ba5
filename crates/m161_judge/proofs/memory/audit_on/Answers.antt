use Rattle.std.proofs.Common.{subst, sym}
use Rattle.std.specs.Prelude.{Some}
use Rattle.m161_machine.specs.StoreHistory.{without_stores}
use Rattle.m161_audit.specs.Going.{IsMemoryOf}
use Rattle.m161_judge.specs.Memory.{IsAuditOf}
use Rattle.m161_judge.proofs.Keeping.{audit_after}
use Rattle.m161_judge.proofs.memory.audit_on.Goals as goal

pub returns-in-Some : goal.returns-in-Some
returns-in-Some g c = λ watches s begun rest parts h.
    let first : IsAuditOf watches s begun (Some c.in-Some.auditor.value) = rw c.in-Some.is at h in
    audit_after watches s c.args.events.now c.audit_on.result c.audit_on.new.self
    (c.audit_on.ensures (without_stores s) watches begun rest parts
    (subst (λ m. IsMemoryOf (without_stores s) watches begun m) (sym c.deref_mut.ensures.value) first))
