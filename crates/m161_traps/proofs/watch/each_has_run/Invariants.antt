use Rattle.std.proofs.Common.{◌≡◌, true, take}
use Rattle.std.specs.List.{All}
use Rattle.m161_cpu.specs.declared.processor.Outcome.TheVariants as outcomes
use Rattle.m161_machine.specs.declared.event.Entry.{Entry}
use Rattle.m161_traps.proofs.watch.each_has_run.Given as goal

-- it is so of those so far
abbrev pub invariant-loop-entry : goal.invariant-loop-entry
invariant-loop-entry l =
    l.all ≡ true → All (λ (e : Entry). e.outcome ≡ outcomes.Ran) (take l.entry-index l.entries)
