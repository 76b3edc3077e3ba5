use Rattle.std.proofs.Common.{◌≡◌, ◌*◌, get_or, length, take}
use Rattle.std.specs.Prelude.{flat_map}
use Rattle.std.specs.List.{range_with_len}
use Rattle.m161_tlb.specs.Rows.{blank_row}
use Rattle.m161_machine.specs.State.{processor_at}
use Rattle.m161_alike.specs.Words.{row_words}
use Rattle.m161_alike.proofs.processor.rows.Given as goal

-- the rows so far
abbrev pub invariant-loop-i : goal.invariant-loop-i
invariant-loop-i g l = record {
  size : length l.words ≡ 192;
  so_far : take (3 * l.i) l.words
      ≡ flat_map (λ i. row_words (get_or (processor_at l.p l.core.state.processors).rows i blank_row)) (range_with_len 0 l.i);
}
