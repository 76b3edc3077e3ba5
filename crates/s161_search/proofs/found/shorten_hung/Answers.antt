use Rattle.std.proofs.Common.{◌≡◌, ◌∙◌, ◌++◌, ap, sym, length, take, drop, refl}
use Rattle.m161_reach.specs.declared.told.SearchVerdict.TheVariants.{Hung}
use Rattle.s161_search.specs.helpers.Inputs.{given_of}
use Rattle.s161_search.proofs.Telling.{hung_printed}
use Rattle.s161_search.proofs.found.shorten_hung.Goals as goal

pub returns : goal.returns
returns c =
    let given = given_of c.args.inputs.now in
    let s = c.args.booted.now in
    let cut = c.truncate.new.self.items in
    let first = c.deref.result.now in
    let behind = c.in_ok-behind.behind.items in
    let left = c.in_ok-left.left.items in
    let first_is : first ≡ take (length given.first) cut = c.deref.ensures.value ∙ c.in_ok-behind.ensures.0 ∙ ap (λ n. take n cut) c.len.ensures in
    let behind_is : behind ≡ drop (length given.first) cut = c.in_ok-behind.ensures.1 ∙ ap (λ n. drop n cut) c.len.ensures in
    let joined : c.extend_from_slice.new.self.items ≡ first ++ left =
    c.in_ok-extend_from_slice.ensures.items ∙ (λ i. sym c.deref.ensures.value i ++ c.deref-2.ensures.value i) in
    hung_printed c.args.task given s c.args.ends.now c.args.events.items cut first behind left c.args.needs
    (record { verdict = Hung; events = c.extend_from_slice.new.self }) c.first_is_no_worse.ensures c.cut_keeps_hang.ensures.law c.requires.begins c.requires.part
    c.truncate.ensures.items first_is behind_is joined refl c.requires.told c.in_ok-left.ensures.passes c.in_ok-left.ensures.judged
