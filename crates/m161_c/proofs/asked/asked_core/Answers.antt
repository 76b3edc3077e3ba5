use Rattle.std.proofs.Common.{◌≡◌, ◌∙◌, ℕ, true, false, ap, inl, inr, refl, subst, sym}
use Rattle.std.proofs.lemmas.Result.{err_from_is_err_and}
use Rattle.m161_audit.specs.Watch.{AreGood}
use Rattle.m161_judge.specs.Verdict.{Criteria}
use Rattle.m161_machine.specs.State.{CoreValue, State}
use Rattle.m161_reach.specs.Reach.{CanBeAsked}
use Rattle.m161_c.specs.Explored.{AreAllGood}
use Rattle.m161_c.specs.helpers.Explored.{IsUnwatched}
use Rattle.m161_c.proofs.Exploring.{unwatched}
use Rattle.m161_c.proofs.asked.asked_core.Goals as goal

pub returns-in_err-check_watches-clause-err : goal.returns-in_err-check_watches-clause-err
returns-in_err-check_watches-clause-err c =
    let p = err_from_is_err_and c.from_residual.result c.from_residual.ensures.1 in
    let answer = c.in_err-check_watches.field-0.0 in
    let booted = c.args.booted.now in
    let state : c.deref.result.now.state ≡ booted = ap (λ (k : CoreValue). k.state) c.deref.ensures ∙ c.in-Ok.ensures in
    rw (p.1, p.2) (unwatched booted c.args.goal.now answer
    (subst (λ (g : Criteria). IsUnwatched booted.conf.ram g.watches answer) c.goal.view_is
    (subst (λ (s : State). IsUnwatched s.conf.ram c.goal.inside.watches.now answer) state c.in_err-check_watches.ensures.err)))

pub returns-then-can_be_asked-clause-good : goal.returns-then-can_be_asked-clause-good
returns-then-can_be_asked-clause-good c =
    let booted = c.args.booted.now in
    let state : c.deref.result.now.state ≡ booted = ap (λ (k : CoreValue). k.state) c.deref.ensures ∙ c.in-Ok.ensures in
    subst (λ (g : Criteria). AreAllGood booted g) c.goal.view_is
    (subst (λ (s : State). (k : ℕ) → AreGood s.conf.ram c.goal.inside.watches.now k) state c.in_ok-check_watches.ensures.ok)

pub returns-else-can_be_asked-clause-err : goal.returns-else-can_be_asked-clause-err
returns-else-can_be_asked-clause-err c =
    let booted = c.args.booted.now in
    let state : c.deref.result.now.state ≡ booted = ap (λ (k : CoreValue). k.state) c.deref.ensures ∙ c.in-Ok.ensures in
    let again : c.deref-2.result.now.state ≡ booted = ap (λ (k : CoreValue). k.state) c.deref-2.ensures ∙ c.in-Ok.ensures in
    inr (inl (
      subst (λ (g : Criteria). AreAllGood booted g) c.goal.view_is
          (subst (λ (s : State). (k : ℕ) → AreGood s.conf.ram c.goal.inside.watches.now k) state c.in_ok-check_watches.ensures.ok),
      λ can. (let bad : false ≡ true = c.if-can_be_asked.ensures.1 (subst (λ (s : State). CanBeAsked s c.args.goal.now) (sym again) can) in absurd (cc)),
      refl,
    ))
