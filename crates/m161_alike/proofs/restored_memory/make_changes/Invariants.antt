use Rattle.std.proofs.Common.{◌≡◌, ◌-◌, ◌≤◌, drop, length}
use Rattle.m161_machine.specs.Restore.{with_memory}
use Rattle.m161_alike.specs.RestoredMemory.{with_changes}
use Rattle.m161_alike.proofs.restored_memory.make_changes.Given as goal

-- the words that are left give the same memory
abbrev pub invariant-loop-place : goal.invariant-loop-place
invariant-loop-place g l =
    (l.place ≤ length l.words)
    × (with_changes (drop l.place l.words) l.core.state.memory ≡ with_changes l.words l.fn.core.state.memory)
    × (l.core.state ≡ with_memory l.core.state.memory l.fn.core.state)
    × (l.core.room ≡ l.fn.core.room)

abbrev pub decreases-loop-place : goal.decreases-loop-place
decreases-loop-place g l = length l.words - l.place
