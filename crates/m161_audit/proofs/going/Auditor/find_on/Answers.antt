use Rattle.std.proofs.Common.{◌∙◌, ap, length, refl, subst, sym}
use Rattle.std.proofs.lemmas.Result.{err_from_is_err_and}
use Rattle.m161_audit.specs.Going.{IsMemoryOf, Memory}
use Rattle.m161_audit.proofs.Parts.{clean_goes_on, were_made}
use Rattle.m161_audit.proofs.going.Auditor.find_on.Goals as goal

pub returns-in_err-finding : goal.returns-in_err-finding
returns-in_err-finding g c = λ s watches begun rest parts h.
    let p = err_from_is_err_and c.from_residual.result c.from_residual.ensures.1 in
    let old : Memory = record {
      core = c.self.inside.core.state;
      shootdowns = c.self.inside.shootdowns;
      audited = c.self.inside.audited;
      finding = c.self.inside.finding;
    } in
    let clean = ap (λ (m : Memory). m.finding) c.self.view_is ∙ c.requires in
    let before = subst (λ m. IsMemoryOf s watches begun m) (sym c.self.view_is) h in
    rw p.1 (p.2 ∙ c.in_err-finding.ensures.found watches s (were_made watches s begun rest c.args.events.now old parts clean before))

pub returns : goal.returns
returns g c = λ s watches begun rest parts h.
    let old : Memory = record {
      core = c.self.inside.core.state;
      shootdowns = c.self.inside.shootdowns;
      audited = c.self.inside.audited;
      finding = c.self.inside.finding;
    } in
    let clean = ap (λ (m : Memory). m.finding) c.self.view_is ∙ c.requires in
    let before = subst (λ m. IsMemoryOf s watches begun m) (sym c.self.view_is) h in
    clean_goes_on c.args.events.now old c.in_ok-finding.field-0 c.find_from.new.core.state c.find_from.new.shootdowns (length c.args.events.now)
    clean refl c.in_ok-finding.ensures.found s watches begun rest parts before
