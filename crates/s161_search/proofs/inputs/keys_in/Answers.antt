use Rattle.std.proofs.Common.{◌∙◌, ap, arith}
use Rattle.std.proofs.lemmas.List.{take_all}
use Rattle.m161_judge.specs.Begun.{keys_in}
use Rattle.s161_search.proofs.Behind.{keys_pushed}
use Rattle.s161_search.proofs.inputs.keys_in.Goals as goal

pub loop-event-preserved : goal.loop-event-preserved
loop-event-preserved c =
    keys_pushed c.args.events.now c.loop-event.event-index _ c.loop-event.keys.items c.push_key.new.keys.items (omega arith) c.loop-event.invariant
    c.in_ok-push_key.ensures

pub returns : goal.returns
returns c =
    let es = c.args.events.now in
    let i = c.loop-event.event-index in
    c.loop-event.invariant ∙ ap keys_in (take_all i es (omega arith))
