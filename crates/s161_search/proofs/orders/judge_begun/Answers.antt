use Rattle.std.proofs.Common.{subst, sym}
use Rattle.m161_judge.specs.Begun.{AreKeysBehind, IsBegun, IsFirstOf, IsRunBehind}
use Rattle.m161_judge.specs.Memory.{IsKeptOf}
use Rattle.m161_judge.specs.Verdict.{Criteria}
use Rattle.m161_machine.specs.State.{CoreValue}
use Rattle.s161_search.specs.Given.{criteria_of}
use Rattle.s161_search.specs.helpers.Inputs.{given_of}
use Rattle.s161_search.proofs.orders.judge_begun.Goals as goal

-- the goal, the number and the machine are those of the task
pub returns-in-Ok-clause-ok : goal.returns-in-Ok-clause-ok
returns-in-Ok-clause-ok c = λ s u fs first keys begun kept.
    let rules = c.args.policy.now in
    let n = c.most-n.result in
    let aim = c.goal.result in
    let first_by = subst (λ (k : Criteria). IsFirstOf k s fs u c.args.first) (sym c.goal.ensures) first in
    let keys_by = subst (λ (k : Criteria). AreKeysBehind k fs u rules) (sym c.goal.ensures) keys in
    let begun_by = subst (λ (k : CoreValue). IsBegun rules n fs u c.args.cursor k.state c.args.begun.events.items) (sym c.deref_mut.ensures.value)
    (subst (λ m. IsBegun rules m fs u c.args.cursor c.args.begun.core.value.state c.args.begun.events.items) (sym c.most-n.ensures) begun) in
    let kept_by = subst (λ (k : Criteria). IsKeptOf k s c.args.begun.events.items c.args.begun.steps) (sym c.goal.ensures) kept in
    subst (λ m. IsRunBehind rules m (criteria_of (given_of c.args.inputs.now)) s fs u c.in-Ok.run') c.most-n.ensures
    (subst (λ (k : Criteria). IsRunBehind rules n k s fs u c.in-Ok.run') c.goal.ensures (c.in-Ok.ensures s u fs first_by keys_by begun_by kept_by))
