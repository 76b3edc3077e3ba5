use Rattle.std.proofs.Common.{◌≡◌, ◌∙◌, ◌++◌, ap, sym, length, take, drop, Some, refl, subst}
use Rattle.m161_reach.specs.declared.told.SearchVerdict.TheVariants as verdicts
use Rattle.s161_search.specs.helpers.Inputs.{given_of}
use Rattle.s161_search.specs.Searches.{IsJudgedAt}
use Rattle.s161_search.proofs.Judging.{judged_has_one, judged_printed}
use Rattle.s161_search.proofs.found.shorten_judged.Goals as goal

pub unreachable-requires : goal.unreachable-requires
unreachable-requires c =
    let given = given_of c.args.inputs.now in
    let s = c.args.booted.now in
    let cut = c.truncate.new.self.items in
    let first = c.deref.result.now in
    let behind = c.in_ok-behind.behind.items in
    let left = c.in_ok-left.left.items in
    let first_is : first ≡ take (length given.first) cut = c.deref.ensures.value ∙ c.in_ok-behind.ensures.0 ∙ ap (λ n. take n cut) c.len.ensures in
    let behind_is : behind ≡ drop (length given.first) cut = c.in_ok-behind.ensures.1 ∙ ap (λ n. drop n cut) c.len.ensures in
    let joined : c.extend_from_slice.new.self.items ≡ first ++ left =
    c.in_ok-extend_from_slice.ensures.items ∙ (λ i. sym c.deref.ensures.value i ++ c.deref-2.ensures.value i) in
    let again = subst (λ v. IsJudgedAt given c.deref-3.result.now v) c.in_default.is (c.in_ok-last.ensures c.requires.booted) in
    judged_has_one given s c.args.events.items cut first behind left c.deref-3.result.now c.args.judged c.rank-kind.result c.cut_keeps_verdict.ensures
    c.one_verdict.ensures c.requires.booted c.requires.judged c.truncate.ensures.items first_is behind_is c.rank-kind.ensures c.in_ok-left.ensures.judged
    (c.deref-3.ensures.value ∙ joined) again

pub returns : goal.returns
returns c = λ cut_is.
    let given = given_of c.args.inputs.now in
    let s = c.args.booted.now in
    let cut = c.truncate.new.self.items in
    let first = c.deref.result.now in
    let behind = c.in_ok-behind.behind.items in
    let left = c.in_ok-left.left.items in
    let first_is : first ≡ take (length given.first) cut = c.deref.ensures.value ∙ c.in_ok-behind.ensures.0 ∙ ap (λ n. take n cut) c.len.ensures in
    let behind_is : behind ≡ drop (length given.first) cut = c.in_ok-behind.ensures.1 ∙ ap (λ n. drop n cut) c.len.ensures in
    let joined : c.extend_from_slice.new.self.items ≡ first ++ left =
    c.in_ok-extend_from_slice.ensures.items ∙ (λ i. sym c.deref.ensures.value i ++ c.deref-2.ensures.value i) in
    let again = subst (λ v. IsJudgedAt given c.deref-3.result.now v) c.in-Some.is (c.in_ok-last.ensures c.requires.booted) in
    judged_printed c.args.task given s c.args.events.items cut first behind left c.args.judged c.in-Some.last c.rank-kind.result
    (record { verdict = verdicts.Run c.in-Some.last.verdict; events = c.extend_from_slice.new.self })
    c.cut_keeps_verdict.ensures c.one_verdict.ensures c.requires.booted c.requires.part c.requires.judged c.truncate.ensures.items first_is behind_is
    c.rank-kind.ensures c.in_ok-left.ensures.passes c.in_ok-left.ensures.judged joined refl
    (subst (λ es. IsJudgedAt given es (Some c.in-Some.last)) c.deref-3.ensures.value again) cut_is
