use Rattle.std.proofs.Common.{◌≡◌, ℕ, ◌<◌, length, slice_index}
use Rattle.m161_elf.proofs.cover.free_places.Given as goal

abbrev pub invariant-loop-at : goal.invariant-loop-at
invariant-loop-at l = record {
  long : length l.next.items ≡ l.size;
  free : (i : ℕ) → i < l.at → slice_index l.next.items i ≡ i;
}
