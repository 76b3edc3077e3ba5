use Rattle.std.proofs.Common.{◌≡◌, ◌∙◌, ap, subst, sym}
use Rattle.m161_machine.specs.StoreHistory.{without_stores}
use Rattle.m161_audit.specs.Stale.{IsFinding}
use Rattle.m161_judge.specs.Memory.{StepsMemory}
use Rattle.m161_judge.specs.Memory.{IsFirstReach}
use Rattle.m161_judge.specs.helpers.Steps.{finding_of, reach_of}
use Rattle.m161_judge.proofs.Keeping.{kept_finding, kept_reach}
use Rattle.m161_judge.proofs.memory.StepMemory.verdict.Goals as goal

pub returns : goal.returns
returns g c = λ aim s events h.
    let found : c.finding_of.result ≡ finding_of c.args.self.now.audit =
    c.finding_of.ensures.found ∙ ap (λ (m : StepsMemory). finding_of m.audit) c.self.view_is in
    let reach : c.reach_of.result ≡ reach_of c.args.self.now.reach =
    c.reach_of.ensures.reach ∙ ap (λ (m : StepsMemory). reach_of m.reach) c.self.view_is in
    c.first_of_steps.ensures aim s events
    (subst (λ f. IsFinding (without_stores s) events aim.watches f) (sym found) (kept_finding aim.watches s events c.args.self.now.audit h.audit))
    (subst (IsFirstReach aim.never s events) (sym reach) (kept_reach aim.never s events c.args.self.now.reach h.reach))
