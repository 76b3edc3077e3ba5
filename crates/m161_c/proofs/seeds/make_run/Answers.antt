use Rattle.std.proofs.Common.{◌∙◌, ap, subst, sym}
use Rattle.m161_judge.specs.Verdict.{Criteria}
use Rattle.m161_c.specs.Driven.{rules_in}
use Rattle.m161_c.specs.Seeds.{Asked, IsToldRun, asked_with}
use Rattle.m161_c.specs.helpers.Seeking.{Begins}
use Rattle.m161_c.proofs.Seeking.{told_run}
use Rattle.m161_c.proofs.seeds.make_run.Goals as goal

pub returns : goal.returns
returns c =
    let i = c.task.inside in
    let a : Asked = asked_with i.file.now i.numbers i.events i.goal.now i.few i.conf in
    let s = c.args.booted.now in
    let q = c.args.ends.now in
    let run = c.in-Ok.run' in
    let told = c.in_ok-told.told in
    let begins : Begins a s q = subst (λ x. Begins x s q) (sym c.task.view_is) c.requires in
    subst (λ x. IsToldRun x c.args.order run told) c.task.view_is
    (told_run a s q c.args.order c.in_ok-policy.policy run told begins
    (c.in_ok-policy.ensures ∙ ap (λ (g : Criteria). rules_in i.numbers c.args.order g.keys) c.goal.view_is) (c.in-Ok.ensures a.file a.conf begins.boots)
    c.in_ok-told.ensures)
