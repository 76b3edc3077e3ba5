use Rattle.std.proofs.Common.{◌≡◌, ◌≤◌, length, take, vec_capacity}
use Rattle.m161_machine.proofs.state.copy_processors.Given as goal

-- the copies so far are those of the first
abbrev pub invariant-loop-processor : goal.invariant-loop-processor
invariant-loop-processor g l =
    (l.copies.items ≡ take l.processor-index l.processors.items) × (length l.processors.items ≤ vec_capacity l.copies)
