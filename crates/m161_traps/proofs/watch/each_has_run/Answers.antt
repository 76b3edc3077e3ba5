use Rattle.std.proofs.Common.{◌≡◌, arith, subst}
use Rattle.std.specs.List.{All}
use Rattle.std.proofs.lemmas.List.{take_all}
use Rattle.m161_cpu.specs.declared.processor.Outcome.TheVariants as outcomes
use Rattle.m161_machine.specs.declared.event.Entry.{Entry}
use Rattle.m161_traps.proofs.Lasting.{ran_more}
use Rattle.m161_traps.proofs.watch.each_has_run.Goals as goal

pub loop-entry-preserved : goal.loop-entry-preserved
loop-entry-preserved c =
    λ both. ran_more c.args.entries.now c.loop-entry.entry-index c.entry-item.result c.loop-entry.all c.has_run-all.result c.loop-entry-test.true c.entry-item.is both
    c.loop-entry.invariant c.has_run-all.ensures

pub returns : goal.returns
returns c =
    λ all. subst (All (λ (e : Entry). e.outcome ≡ outcomes.Ran))
    (take_all c.loop-entry.entry-index c.args.entries.now (let end = c.loop-entry-test.false in omega (arith, end)))
    (c.loop-entry.invariant all)
