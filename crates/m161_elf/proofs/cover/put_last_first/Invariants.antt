use Rattle.std.proofs.Common.{◌≡◌, ℕ, ◌<◌, ◌≤◌, length, slice_index}
use Rattle.std.specs.Option.{is_some}
use Rattle.m161_elf.specs.Header.{e_phnum}
use Rattle.m161_elf.specs.Image.{byte_left}
use Rattle.m161_elf.specs.helpers.Cover.{is_taken, last_at, segments_from, IsCover}
use Rattle.m161_elf.proofs.cover.put_last_first.Given as goal

abbrev pub invariant-loop-i : goal.invariant-loop-i
invariant-loop-i l = record {
  within : l.i ≤ e_phnum l.file;
  cover : IsCover l.next;
  taken : (at : ℕ) → at < length l.memory →
      is_taken l.next at ≡ is_some (last_at (segments_from l.file l.i) at);
  bytes : (at : ℕ) → at < length l.memory →
      slice_index l.memory at ≡ byte_left l.file (segments_from l.file l.i) at;
}

abbrev pub decreases-loop-i : goal.decreases-loop-i
decreases-loop-i l = l.i
