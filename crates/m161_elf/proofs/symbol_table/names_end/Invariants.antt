use Rattle.std.proofs.Common.{◌≢◌, ℕ, ◌<◌, ◌≤◌, length, slice_index}
use Rattle.m161_elf.proofs.symbol_table.names_end.Given as goal

-- no byte from the end on is zero
abbrev pub invariant-loop-end : goal.invariant-loop-end
invariant-loop-end l = record {
  within : l.end ≤ length l.strings;
  none : (i : ℕ) → l.end ≤ i → i < length l.strings → slice_index l.strings i ≢ 0;
}

abbrev pub decreases-loop-end : goal.decreases-loop-end
decreases-loop-end l = l.end
