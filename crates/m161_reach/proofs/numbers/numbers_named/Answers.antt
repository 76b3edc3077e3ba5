use Rattle.std.proofs.Common.{◌∙◌, ◌+◌, ◌++◌, ap, drop, sym}
use Rattle.std.specs.Prelude.{option_map}
use Rattle.m161_reach.specs.Named.{numbers_named}
use Rattle.m161_reach.proofs.Numbering.{named_more}
use Rattle.m161_reach.proofs.numbers.numbers_named.Goals as goal

pub loop-event-preserved : goal.loop-event-preserved
loop-event-preserved c =
    let processors = c.args.processors in
    let keys = c.args.keys.now in
    let es = c.args.events.now in
    let i = c.loop-event.event-index in
    named_more processors keys c.loop-event.typed c.in-Some.number c.in-Some.behind i es _ c.loop-event.numbers.items (numbers_named processors keys 0 es)
    c.loop-event-test.true c.in-Some.ensures c.loop-event.invariant
    ∙ ap (λ xs. option_map (λ ns. xs ++ ns) (numbers_named processors keys c.in-Some.behind (drop (i + 1) es)))
    (sym c.in_ok-push_number.ensures)
