use Rattle.std.proofs.Common.{◌∙◌, [], ap, subst, sym}
use Rattle.m161_drive.specs.Policy.{Rules}
use Rattle.m161_judge.specs.Begun.{IsBegun}
use Rattle.m161_judge.specs.Memory.{IsKeptOf}
use Rattle.m161_judge.specs.Verdict.{Criteria}
use Rattle.m161_machine.specs.State.{CoreValue}
use Rattle.m161_order.specs.declared.order.Order.TheVariants.{Delayed}
use Rattle.m161_c.proofs.Pointing.{begun, kept_again, run_behind}
use Rattle.m161_c.proofs.lists.ListRuns.run_from.Goals as goal

pub returns-in-Ok : goal.returns-in-Ok
returns-in-Ok c = λ at boots start.
    let self = c.args.self.now in
    let a = self.task.now in
    let s = self.booted.now in
    let point = c.args.point.now in
    let rules = c.in_ok-policy.policy in
    let run = c.in_ok-begun.begun in
    let same = c.in_ok-begun.ensures in
    let n = c.most.result in
    let aim = c.goal.result.now in
    let first : IsBegun rules a.events [] s c.in-Some.cursor run.core.value.state run.events.items =
    begun a s self.steps.now run.core.value.state self.turns c.args.delays.now rules point c.in-Some.cursor run.events.items c.in_ok-policy.ensures
    c.in-Some.ensures same.0 same.1 at in
    let kept = kept_again s a.goal point.events.items run.events.items point.steps run.steps same.1 same.2 (at.is_kept start) in
    run_behind a s (Delayed self.turns c.args.delays.now) rules n aim c.in-Ok.run' c.in_ok-policy.ensures c.most.ensures c.goal.ensures boots start.good
    (c.in-Ok.ensures s s [] (c.none.ensures aim s)
    (λ on. ap (λ (g : Criteria). g.keys) c.goal.ensures ∙ sym (ap (λ (r : Rules). r.keys) c.in_ok-policy.ensures))
    (subst (λ (k : CoreValue). IsBegun rules n [] s c.in-Some.cursor k.state run.events.items) (sym c.deref_mut.ensures.value)
    (subst (λ m. IsBegun rules m [] s c.in-Some.cursor run.core.value.state run.events.items) (sym c.most.ensures) first))
    (subst (λ (g : Criteria). IsKeptOf g s run.events.items run.steps) (sym c.goal.ensures) kept))
