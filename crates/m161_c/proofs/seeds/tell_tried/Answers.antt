use Rattle.std.proofs.Common.{◌∙◌, ap, inr, map, subst}
use Rattle.m161_c.specs.declared.answer.VerdictNumbers.{VerdictNumbers}
use Rattle.m161_c.specs.Seeds.{number_of_event}
use Rattle.m161_c.specs.helpers.Seeking.{IsEnd}
use Rattle.m161_c.proofs.seeds.tell_tried.Goals as goal

pub returns : goal.returns
returns c = λ order count tried.
    let a = c.args.task.now in
    let right = c.args.tried.right in
    let told = c.in-Some.field-0.told in
    let end = subst (λ wrong. IsEnd a order count right wrong) c.in-Some.is tried.at_end in
    let items = c.deref.ensures.value ∙ c.truncate.ensures.items in
    inr (record {
      right = right;
      within = end.0;
      cut = c.args.tried.cut;
      before = tried.before;
      run = c.in-Some.field-0.run;
      told = told;
      wrong = end.1;
      found_is =
          ap (λ (v : VerdictNumbers). record { verdict = v; right = right; cut = c.args.tried.cut; events = told.events }) c.search_verdict.ensures;
      events_are = c.in_ok-bytes.ensures ∙ (λ i. map (number_of_event (c.task.view_is i).conf.processors) (items i));
    })
