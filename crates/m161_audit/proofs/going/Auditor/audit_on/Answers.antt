use Rattle.std.proofs.Common.{◌∙◌, ap, refl, sym}
use Rattle.m161_audit.specs.Going.{Memory}
use Rattle.m161_audit.proofs.Parts.{stale_goes_on}
use Rattle.m161_audit.proofs.going.Auditor.audit_on.Goals as goal

pub returns-in-Stale : goal.returns-in-Stale
returns-in-Stale g c =
    stale_goes_on c.args.events.now c.args.self.now c.args.self.now c.in-Stale.place c.in-Stale.processor c.in-Stale.address c.in-Stale.row
    (ap (λ (m : Memory). m.finding) (sym c.self.view_is) ∙ c.in-Stale.is) refl
