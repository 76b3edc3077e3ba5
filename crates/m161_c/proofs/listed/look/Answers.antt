use Rattle.std.proofs.Common.{[], subst, sym}
use Rattle.std.proofs.lemmas.Result.{IfOk-weaker}
use Rattle.m161_judge.specs.Memory.{IsKeptOf}
use Rattle.m161_c.specs.Seeds.{Asked}
use Rattle.m161_c.specs.helpers.Listing.{IsLookedBy}
use Rattle.m161_c.proofs.Listing.{finds_from, sliced_by}
use Rattle.m161_c.proofs.listed.look.Goals as goal

pub returns-in-Some : goal.returns-in-Some
returns-in-Some c =
    let a = c.args.task.now in
    let s = c.args.booted.now in
    let from = c.args.from.now in
    let kept = c.in-Ok.steps in
    let start = subst (λ (x : Asked). IsKeptOf x.goal s [] kept) c.task.view_is c.in-Ok.ensures in
    IfOk-weaker c.tell_slice.result _ _
    (λ told h. subst (λ limit. IsLookedBy a c.args.turns c.args.class from limit told.0 told.1.items) (sym c.in-Some.is)
    (sliced_by a s c.args.ends.now kept c.args.turns c.args.class from c.in-Some.most c.in_ok-search_slice-in-Some.field-0 told.0 told.1.items
    c.requires.begins start c.in_ok-search_slice-in-Some.ensures.ok h))
    c.tell_slice.ensures

pub returns : goal.returns
returns c =
    let a = c.args.task.now in
    let s = c.args.booted.now in
    let from = c.args.from.now in
    let kept = c.in-Ok.steps in
    let start = subst (λ (x : Asked). IsKeptOf x.goal s [] kept) c.task.view_is c.in-Ok.ensures in
    IfOk-weaker c.tell_whole.result _ _
    (λ told h. subst (λ limit. IsLookedBy a c.args.turns c.args.class from limit told.0 told.1.items) (sym c.in-None.is) h)
    (c.tell_whole.ensures c.args.turns c.args.class s c.requires.begins.boots
    (finds_from a s c.args.ends.now kept c.args.turns c.args.class c.in_ok-search_alone-in-None.field-0 c.requires.begins start
    c.in_ok-search_alone-in-None.ensures.ok))
