use Rattle.std.proofs.Common.{◌≡◌, ◌∙◌, ap, subst, sym}
use Rattle.std.proofs.lemmas.Result.{err_from_is_err_and}
use Rattle.m161_judge.specs.Memory.{IsKeptOf}
use Rattle.m161_judge.specs.Verdict.{Criteria}
use Rattle.m161_judge.proofs.Keeping.{kept_after}
use Rattle.m161_judge.proofs.memory.StepMemory.go_on.Goals as goal

pub returns-in_err-audit_on : goal.returns-in_err-audit_on
returns-in_err-audit_on g c = λ s begun rest parts h.
    let p = err_from_is_err_and c.from_residual.result c.from_residual.ensures.1 in
    let before = subst (λ m. IsKeptOf c.args.goal.now s begun m) (sym c.self.view_is) h in
    rw p.1 (p.2 ∙ c.in_err-audit_on.ensures c.args.goal.now.watches s begun rest parts before.audit)

pub returns : goal.returns
returns g c = λ s begun rest parts h.
    let never : c.goal.inside.never.now ≡ c.args.goal.now.never = ap (λ (x : Criteria). x.never) c.goal.view_is in
    let before = subst (λ m. IsKeptOf c.args.goal.now s begun m) (sym c.self.view_is) h in
    let audit = c.in_ok-audit_on.ensures c.args.goal.now.watches s begun rest parts before.audit in
    let reach = rw never at (c.reach_on.ensures s begun rest parts (rw (sym never) at before.reach)) in
    kept_after c.args.goal.now s begun c.args.events.now c.args.self.now _ c.reach_on.result h audit reach
