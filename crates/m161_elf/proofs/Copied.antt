use Rattle.std.specs.Prelude.{◌-◌, nat_le, nat_lt, ◌&&◌, if◌then◌else◌}
use Rattle.std.proofs.Common.{◌≡◌, ℕ, ◌+◌, ◌<◌, ◌≤◌, List, length, take, drop, replicate, arith, slice_index}
use Rattle.std.proofs.lemmas.List.{places}
use Rattle.std.proofs.lemmas.Bool.Decides.{nat_tests}
use Rattle.m161_elf.specs.declared.header.ProgramHeader.{ProgramHeader}
use Rattle.m161_elf.specs.helpers.Copied.{cleared_byte, copied_byte}
use Rattle.m161_elf.specs.Image.{place_in_ram}
use borrow.Rule.Slice.PartMut.{put_mid}

-- A byte of memory once a part of the file is written over a part of it. The sizes of both parts
-- are as the code computes them.
put_mid-at : (file memory : List ℕ) (start offset size written read at : ℕ) → written ≡ size
    → read ≡ size
    → start + size ≤ length memory → offset + size ≤ length file → at < length memory
    → slice_index (put_mid start written memory (take read (drop offset file))) at
    ≡ (if nat_le start at && nat_lt at (start + size) then slice_index file (offset + (at - start))
    else slice_index memory at)
put_mid-at file memory start offset size written read at e f fits within here =
    grind (arith, places, nat_tests)

-- A byte of memory once zeros are written over a part of it.
zeros_at : (memory : List ℕ) (from to written blank at : ℕ) → written ≡ to - from
    → blank ≡ to - from
    → from ≤ to → to ≤ length memory → at < length memory
    → slice_index (put_mid from written memory (replicate blank 0)) at
    ≡ (if nat_le from at && nat_lt at to then 0 else slice_index memory at)
zeros_at memory from to written blank at e f ordered fits here = grind (arith, places, nat_tests)

-- The same for what a segment has past the file's part.
pub zeros_cleared : (s : ProgramHeader) (memory : List ℕ) (written blank at : ℕ)
    → written ≡ s.p_memsz - s.p_filesz → blank ≡ s.p_memsz - s.p_filesz
    → s.p_filesz ≤ s.p_memsz → place_in_ram s.p_vaddr + s.p_memsz ≤ length memory
    → at < length memory
    → slice_index
    (put_mid (place_in_ram s.p_vaddr + s.p_filesz) written memory (replicate blank 0)) at
    ≡ cleared_byte s memory at
zeros_cleared s memory written blank at e f ordered =
    zeros_at memory (place_in_ram s.p_vaddr + s.p_filesz)
    (place_in_ram s.p_vaddr + s.p_memsz) written blank at (omega (arith, e)) (omega (arith, f))
    (omega (arith, ordered))

-- The same for a segment's part of the file.
pub put_mid-copied : (file : List ℕ) (s : ProgramHeader) (memory : List ℕ) (written read at : ℕ)
    → written ≡ s.p_filesz → read ≡ s.p_filesz
    → place_in_ram s.p_vaddr + s.p_filesz ≤ length memory → s.p_offset + s.p_filesz ≤ length file
    → at < length memory
    → slice_index
    (put_mid (place_in_ram s.p_vaddr) written memory (take read (drop s.p_offset file))) at
    ≡ copied_byte file s memory at
put_mid-copied file s memory = put_mid-at file memory (place_in_ram s.p_vaddr) s.p_offset s.p_filesz
