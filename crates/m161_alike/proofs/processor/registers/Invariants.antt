use Rattle.std.proofs.Common.{◌≡◌, length, map, take}
use Rattle.std.specs.Prelude.{slice_index}
use Rattle.std.specs.List.{range_with_len}
use Rattle.m161_machine.specs.State.{processor_at}
use Rattle.m161_alike.proofs.processor.registers.Given as goal

-- the registers so far
abbrev pub invariant-loop-r : goal.invariant-loop-r
invariant-loop-r g l = record {
  size : length l.words ≡ 32;
  so_far : take l.r l.words ≡ map (slice_index (processor_at l.p l.core.state.processors).registers) (range_with_len 0 l.r);
}
