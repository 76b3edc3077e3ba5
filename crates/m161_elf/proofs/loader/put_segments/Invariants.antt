use Rattle.std.proofs.Common.{◌≡◌, ℕ, ◌<◌, length, slice_index}
use Rattle.m161_elf.specs.Header.{segments_among}
use Rattle.m161_elf.specs.Image.{byte_left}
use Rattle.m161_elf.proofs.loader.put_segments.Given as goal

abbrev pub invariant-loop-i : goal.invariant-loop-i
invariant-loop-i l =
    (at : ℕ) → at < length l.memory
    → slice_index l.memory at ≡ byte_left l.file (segments_among l.file l.i) at
