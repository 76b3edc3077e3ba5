use Rattle.std.proofs.Common.{◌∙◌, ap, inr, map, subst}
use Rattle.m161_audit.specs.Audit.{AuditsState}
use Rattle.m161_machine.specs.History.{events_of}
use Rattle.m161_c.specs.Explored.{watch_of}
use Rattle.m161_c.proofs.judged.audit_all.Goals as goal

pub returns : goal.returns
returns c =
    let m = c.args.machine.now in
    let found = c.audit_core.result in
    let watches = map watch_of c.args.watches.now in
    inr (
      found,
      subst (λ s. AuditsState s (events_of m.log) watches found) (c.into_core-core.ensures ∙ ap (λ h. h.state) c.in-Ok-boot_again.ensures)
          (subst (λ es. AuditsState c.into_core-core.result.state es watches found) (c.deref.ensures.value ∙ c.in-Ok.ensures)
          (subst (λ ws. AuditsState c.into_core-core.result.state c.deref.result.now ws found) (c.deref-2.ensures.value ∙ c.in-Ok-watches_of.ensures)
          c.audit_core.ensures)),
      c.tell_finding.ensures,
    )
