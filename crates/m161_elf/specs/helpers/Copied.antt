use Rattle.std.specs.Prelude.{ℕ, ◌+◌, ◌-◌, nat_lt, nat_le, ◌&&◌, if◌then◌else◌, List, slice_index}
use Rattle.m161_elf.specs.declared.header.ProgramHeader.{ProgramHeader}
use Rattle.m161_elf.specs.Image.{covers, place_in_ram, segment_byte}

-- The copy of a segment to memory, in two steps.

-- the byte at a physical address once the file's part of a segment is copied over memory
abbrev pub copied_byte : List ℕ → ProgramHeader → List ℕ → ℕ → ℕ
copied_byte file s memory at =
    if nat_le (place_in_ram s.p_vaddr) at && nat_lt at (place_in_ram s.p_vaddr + s.p_filesz)
    then slice_index file (s.p_offset + (at - place_in_ram s.p_vaddr)) else slice_index memory at

-- the byte at a physical address once the rest of a segment is cleared
abbrev pub cleared_byte : ProgramHeader → List ℕ → ℕ → ℕ
cleared_byte s memory at =
    if nat_le (place_in_ram s.p_vaddr + s.p_filesz) at
    && nat_lt at (place_in_ram s.p_vaddr + s.p_memsz)
    then 0 else slice_index memory at

-- the byte at a physical address once a segment is copied to memory: the segment's, if it has one
-- there
abbrev pub put_byte : List ℕ → ProgramHeader → List ℕ → ℕ → ℕ
put_byte file s memory at = if covers at s then segment_byte file at s else slice_index memory at
