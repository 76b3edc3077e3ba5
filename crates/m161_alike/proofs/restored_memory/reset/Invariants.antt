use Rattle.std.proofs.Common.{◌≡◌, drop, length}
use Rattle.m161_machine.specs.Restore.{with_memory}
use Rattle.m161_alike.proofs.RestoringMemory.{AreLeft}
use Rattle.m161_alike.proofs.restored_memory.reset.Given as goal

-- the words but those at the addresses that are left are boot's
abbrev pub invariant-loop-i : goal.invariant-loop-i
invariant-loop-i g l =
    (length l.core.state.memory ≡ length l.boot)
    × AreLeft l.boot l.core.state.memory (drop l.i l.addresses)
    × (l.core.state ≡ with_memory l.core.state.memory l.fn.core.state)
    × (l.core.room ≡ l.fn.core.room)
