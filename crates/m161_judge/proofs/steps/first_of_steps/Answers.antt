use Rattle.std.proofs.Common.{sym, subst}
use Rattle.m161_audit.specs.Stale.{IsFinding}
use Rattle.m161_machine.specs.StoreHistory.{without_stores}
use Rattle.m161_judge.specs.helpers.Walk.{IsJudgedOfSteps}
use Rattle.m161_judge.proofs.Judging.{steps_clean}
use Rattle.m161_judge.proofs.steps.first_of_steps.Goals as goal

pub returns-in-Clean : goal.returns-in-Clean
returns-in-Clean c = λ aim s events found first.
    subst (IsJudgedOfSteps aim s events) (sym c.reached.ensures)
    (steps_clean aim s events c.args.reach
    (subst (λ f. IsFinding (without_stores s) events aim.watches f) c.in-Clean.is found) first)
