use Rattle.std.proofs.Common.{◌≡◌, length, map, take}
use Rattle.std.specs.Prelude.{slice_index}
use Rattle.std.specs.List.{range_with_len}
use Rattle.m161_bus.specs.Board.{place_of}
use Rattle.m161_alike.proofs.board.cram.Given as goal

-- the words so far
abbrev pub invariant-loop-i : goal.invariant-loop-i
invariant-loop-i g l = record {
  size : length l.words ≡ 64;
  so_far : take l.i l.words ≡ map (slice_index (place_of l.p l.core.state.board).cram) (range_with_len 0 l.i);
}
