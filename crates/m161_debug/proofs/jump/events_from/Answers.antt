use Rattle.std.proofs.Common.{◌∙◌, ◌++◌, ◌∷◌, [], ap, arith, length, sym}
use Rattle.std.proofs.lemmas.List.{length_push}
use Rattle.m161_debug.proofs.Repeating.{all_kept, kept_more, none_kept}
use Rattle.m161_debug.proofs.jump.events_from.Goals as goal

pub loop-i-init : goal.loop-i-init
loop-i-init g c =
    let items = c.in_ok-events.ensures.items in
    let capacity = c.in_ok-events.ensures.capacity in
    record {
      items = items ∙ none_kept c.args.machine.now.log c.args.first;
      number = omega (arith, ap length items);
      room = omega (arith, capacity);
    }

pub loop-i-preserved : goal.loop-i-preserved
loop-i-preserved g c =
    let items = c.push_reserved.ensures.items in
    let capacity = c.push_reserved.ensures.capacity in
    let number = c.loop-i.invariant.number in
    let room = c.loop-i.invariant.room in
    record {
      items = items ∙ ap (λ es. es ++ c.log_at.result.event ∷ []) c.loop-i.invariant.items
          ∙ sym (kept_more c.args.machine.now.log c.args.first c.loop-i.i c.log_at.result (omega (arith, number)) (omega arith) c.log_at.ensures);
      number = omega (arith, number, ap length items, length_push c.loop-i.events.items c.log_at.result.event);
      room = omega (arith, room, capacity);
    }

pub returns : goal.returns
returns g c = c.loop-i.invariant.items ∙ all_kept c.args.machine.now.log c.args.first c.loop-i.i (omega arith)
