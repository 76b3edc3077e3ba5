use Rattle.std.proofs.Common.{◌≡◌, ◌-◌, ◌≤◌, ◌∷◌, replicate, vec_capacity}
use Rattle.m161_cpu.specs.Processor.{started_processor, stopped_processor}
use Rattle.m161_machine.proofs.state.first_processors.Given as goal

-- the first processor, and the others so far
abbrev pub invariant-loop-made : goal.invariant-loop-made
invariant-loop-made g l =
    (l.processors.items ≡ started_processor l.entry 0 0 0 ∷ replicate (l.made - 1) stopped_processor) × (l.number ≤ vec_capacity l.processors)
