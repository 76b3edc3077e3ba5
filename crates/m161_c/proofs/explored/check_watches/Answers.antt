use Rattle.std.proofs.Common.{ℕ, [], Err, inr, refl, subst}
use Rattle.m161_audit.specs.declared.finding.AuditError.TheVariants as errors
use Rattle.m161_audit.specs.Audit.{AuditsState}
use Rattle.m161_audit.specs.Watch.{AreGood}
use Rattle.m161_c.proofs.explored.check_watches.Goals as goal

pub returns-in-Ok-audit_core-clause-ok : goal.returns-in-Ok-audit_core-clause-ok
returns-in-Ok-audit_core-clause-ok c =
    subst (λ s. (k : ℕ) → AreGood s.conf.ram c.args.watches.now k) c.in-Ok.ensures.state c.in-Ok-audit_core.ensures.0

pub returns-in-Err-BadWatch-clause-err : goal.returns-in-Err-BadWatch-clause-err
returns-in-Err-BadWatch-clause-err c =
    let watches = c.args.watches.now in
    let place = c.in-Err-BadWatch.field-0-0 in
    let bad = subst (λ s. AuditsState s [] watches (Err (errors.BadWatch place))) c.in-Ok.ensures.state
    (subst (λ e. AuditsState c.in-Ok.core.state [] watches (Err e)) c.in-Err-BadWatch.field-0-is c.in-Err-BadWatch.ensures) in
    inr (refl, (place, bad.0, bad.1))
