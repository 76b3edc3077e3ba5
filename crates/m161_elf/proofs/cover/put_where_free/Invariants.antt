use Rattle.std.specs.Prelude.{nat_lt, ◌||◌, ◌&&◌, if◌then◌else◌}
use Rattle.std.proofs.Common.{◌≡◌, ℕ, ◌-◌, ◌<◌, ◌≤◌, length, slice_index}
use Rattle.m161_elf.specs.Image.{covers, segment_byte}
use Rattle.m161_elf.specs.helpers.Cover.{is_taken, IsCover}
use Rattle.m161_elf.proofs.cover.put_where_free.Given as goal

abbrev pub invariant-loop-at : goal.invariant-loop-at
invariant-loop-at l = record {
  cover : IsCover l.next;
  from : l.start ≤ l.at;
  within : l.at < length l.next;
  free : slice_index l.next l.at ≡ l.at;
  taken : (i : ℕ) → i < length l.memory →
      is_taken l.next i ≡ (is_taken l.fn.next i || (covers i l.segment && nat_lt i l.at));
  bytes : (i : ℕ) → i < length l.memory →
      slice_index l.memory i
      ≡ (if is_taken l.fn.next i then slice_index l.fn.memory i
      else (if covers i l.segment && nat_lt i l.at then segment_byte l.file i l.segment
      else slice_index l.fn.memory i));
}

abbrev pub decreases-loop-at : goal.decreases-loop-at
decreases-loop-at l = length l.next - l.at
