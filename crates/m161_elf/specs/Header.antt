use Rattle.std.specs.Prelude.{ℕ, ◌+◌, ◌*◌, Bool, ◌==◌, List, map, filter}
use Rattle.std.specs.List.{range_with_len}
use Rattle.m161_ram.specs.Word.{half_at, word_at}
use Rattle.m161_elf.specs.declared.header.ProgramHeader.{ProgramHeader}

-- The headers of a file, whose half-words and words are big-endian, as memory's are. ELF32
-- specification, "ELF Header" and "Program Header".

-- the fields of the ELF header
abbrev pub e_type : List ℕ → ℕ
e_type file = half_at file 16

abbrev pub e_machine : List ℕ → ℕ
e_machine file = half_at file 18

abbrev pub e_entry : List ℕ → ℕ
e_entry file = word_at file 24

abbrev pub e_phoff : List ℕ → ℕ
e_phoff file = word_at file 28

abbrev pub e_phentsize : List ℕ → ℕ
e_phentsize file = half_at file 42

abbrev pub e_phnum : List ℕ → ℕ
e_phnum file = half_at file 44

-- the program header at an offset in the file
abbrev pub header_at : List ℕ → ℕ → ProgramHeader
header_at file at = record {
  p_type = word_at file at;
  p_offset = word_at file (at + 4);
  p_vaddr = word_at file (at + 8);
  p_filesz = word_at file (at + 16);
  p_memsz = word_at file (at + 20);
}

-- program header i of the table
abbrev pub header : List ℕ → ℕ → ProgramHeader
header file i = header_at file (e_phoff file + 32 * i)

-- the first program headers, in the table's order
abbrev pub headers : List ℕ → ℕ → List ProgramHeader
headers file count = map (header file) (range_with_len 0 count)

-- PT_LOAD
abbrev pub is_load : ProgramHeader → Bool
is_load h = h.p_type == 1

-- the segments to load among the first program headers, in the table's order
abbrev pub segments_among : List ℕ → ℕ → List ProgramHeader
segments_among file count = filter is_load (headers file count)

-- the segments to load, in the table's order
abbrev pub segments : List ℕ → List ProgramHeader
segments file = segments_among file (e_phnum file)
