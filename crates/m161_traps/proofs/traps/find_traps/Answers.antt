use Rattle.std.proofs.Common.{◌∙◌, [], refl, ap, arith, sym, subst, take}
use Rattle.std.proofs.lemmas.List.{take_all, take_more}
use Rattle.m161_traps.specs.Traps.{trap_lines}
use Rattle.m161_traps.specs.helpers.Counting.{Passes}
use Rattle.m161_traps.proofs.Counting.{passes_more}
use Rattle.m161_traps.proofs.traps.find_traps.Goals as goal

pub loop-event-preserved : goal.loop-event-preserved
loop-event-preserved g c =
    record {
      passes = subst (λ es. Passes c.args.core.now.state es [] c.pass.new.core.state c.pass.new.lines.items)
          (sym (take_more c.args.events.now c.loop-event.event-index _ c.loop-event-test.true))
          (passes_more c.args.core.now.state c.loop-event.core.state c.pass.new.core.state (take c.loop-event.event-index c.args.events.now) _ [] c.loop-event.lines.items c.pass.new.lines.items
          c.loop-event.invariant.passes c.in_ok-pass.ensures.passes);
      told = c.in_ok-pass.ensures.told;
    }

pub returns-clause-lines : goal.returns-clause-lines
returns-clause-lines g c =
    c.loop-event.invariant.passes.1 [] refl
    ∙ ap (trap_lines c.args.core.now.state) (take_all c.loop-event.event-index c.args.events.now (let end = c.loop-event-test.false in omega (arith, end)))
