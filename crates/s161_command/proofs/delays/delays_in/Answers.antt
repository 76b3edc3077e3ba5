use Rattle.std.proofs.Common.{arith, ◌∙◌, ◌++◌, ◌∷◌, [], ap, lit<, map, subst, sym}
use Rattle.std.proofs.lemmas.Iterator.Consumers.{YieldsList-at, YieldsList-end, YieldsList-so_far, YieldsList-turn}
use Rattle.std.proofs.lemmas.Iterator.Splits.{YieldsList-from_str_split}
use Rattle.std.proofs.lemmas.List.{map-append}
use Rattle.std.proofs.lemmas.List.Elements.{All-nil}
use Rattle.std.proofs.lemmas.List.Sorted.{IsNonDecreasingBy-short}
use Rattle.s161_command.specs.Delays.{AreNumbers, number_of, parts_of}
use Rattle.s161_command.specs.Numbers.{IsNumber}
use Rattle.s161_command.specs.helpers.Delays.{CanFollow}
use Rattle.s161_command.proofs.Delaying.{more, refuses}
use Rattle.s161_command.proofs.delays.delays_in.Goals as goal

pub loop-part-init : goal.loop-part-init
loop-part-init c = (
  record { each = All-nil IsNumber; few = omega arith; ascending = IsNonDecreasingBy-short (λ n. n) [] (omega arith) },
  c.none-delays.ensures,
)

pub returns-in_default : goal.returns-in_default
returns-in_default c =
    let so_far = YieldsList-so_far
    (YieldsList-at c.into_iter-part-iterator.ensures.into_iter_gives
    (YieldsList-from_str_split 44 c.args.text.now (lit< tt) c.split-part-items.ensures.text c.split-part-items.ensures.has_more c.split-part-items.ensures.pattern))
    c.loop-part.yielded _ c.loop-part.yielded_by in
    let here = YieldsList-turn
    (YieldsList-at c.into_iter-part-iterator.ensures.into_iter_gives
    (YieldsList-from_str_split 44 c.args.text.now (lit< tt) c.split-part-items.ensures.text c.split-part-items.ensures.has_more c.split-part-items.ensures.pattern))
    c.loop-part.yielded _ c.loop-part.yielded_by _ _ c.in-Some.part c.in-Some.is c.next.ensures.steps in
    refuses (parts_of c.args.text.now) (map (λ part. part.now) c.loop-part.yielded) c.in-Some.part.now _ so_far here
    (subst (λ numbers. ¬ CanFollow numbers c.in-Some.part.now) c.loop-part.invariant.1 c.in_default.ensures)

pub loop-part-preserved : goal.loop-part-preserved
loop-part-preserved c =
    let parts = map (λ part. part.now) c.loop-part.yielded in
    let longer = map-append (λ part. part.now) c.loop-part.yielded (c.in-Some.part ∷ []) in
    let numbers = c.loop-part.invariant.1 in
    let added = c.in-Some-with_part.ensures in (
      subst AreNumbers (sym longer) (more parts c.in-Some.part.now c.loop-part.invariant.0 (subst (λ ns. CanFollow ns c.in-Some.part.now) numbers added.0)),
      added.1 ∙ ap (λ ns. ns ++ number_of c.in-Some.part.now ∷ []) numbers
          ∙ sym (map-append number_of parts (c.in-Some.part.now ∷ []))
          ∙ ap (map number_of) (sym longer),
    )

pub returns : goal.returns
returns c =
    let done = YieldsList-end
    (YieldsList-at c.into_iter-part-iterator.ensures.into_iter_gives
    (YieldsList-from_str_split 44 c.args.text.now (lit< tt) c.split-part-items.ensures.text c.split-part-items.ensures.has_more c.split-part-items.ensures.pattern))
    c.loop-part.yielded _ c.loop-part.yielded_by _ _ c.in-None.is c.next.ensures.steps in (
      subst AreNumbers done.0 c.loop-part.invariant.0,
      c.loop-part.invariant.1 ∙ ap (map number_of) done.0,
    )
