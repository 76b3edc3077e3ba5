use Rattle.std.proofs.Common.{◌≡◌, ◌<◌, ℕ, length, slice_index}
use Rattle.m161_machine.specs.State.{processor_at}
use Rattle.m161_c.proofs.shown.registers_of.Given as goal

-- the registers so far are the processor's
abbrev pub invariant-loop-r : goal.invariant-loop-r
invariant-loop-r l = (length l.registers ≡ 32)
    × ((r : ℕ) → r < l.r → slice_index l.registers r ≡ slice_index (processor_at l.p l.machine.state.processors).registers r)
