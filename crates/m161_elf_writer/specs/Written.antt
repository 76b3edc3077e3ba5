use Rattle.std.specs.Prelude.{ℕ, ◌+◌, ◌*◌, List, [], ◌∷◌, ◌++◌, length}
use Rattle.std.specs.List.{flat_map}
use Rattle.std.specs.Int.{w16, w32, to_be_bytes}
use Rattle.m161_asm.specs.Text.{Segment}

-- The file of a program: ELF header, program headers, segments. ELF32 specification, "ELF Header"
-- and "Program Header".

-- the bytes of half-words and of words, big-endian
abbrev pub halves_bytes : List ℕ → List ℕ
halves_bytes = flat_map (to_be_bytes w16)

abbrev pub words_bytes : List ℕ → List ℕ
words_bytes = flat_map (to_be_bytes w32)

-- 7f, "ELF", 32 bits, big-endian, version 1, and nine zeros
abbrev pub identification : List ℕ
identification = 0x7f ∷ 0x45 ∷ 0x4c ∷ 0x46 ∷ 1 ∷ 2 ∷ 1 ∷ 0 ∷ 0 ∷ 0 ∷ 0 ∷ 0 ∷ 0 ∷ 0 ∷ 0 ∷ 0 ∷ []

-- e_type (executable) and e_machine (MIPS); e_version, e_entry, e_phoff, e_shoff and e_flags;
-- e_ehsize, e_phentsize, e_phnum, and the three fields of a file without sections
abbrev pub file_header : ℕ → ℕ → List ℕ
file_header entry count =
    identification
    ++ halves_bytes (2 ∷ 8 ∷ [])
    ++ words_bytes (1 ∷ entry ∷ 52 ∷ 0 ∷ 0 ∷ [])
    ++ halves_bytes (52 ∷ 32 ∷ count ∷ 0 ∷ 0 ∷ 0 ∷ [])

-- how many bytes a segment has
abbrev pub size : Segment → ℕ
size s = 4 * length s.1

-- p_type (PT_LOAD), p_offset, p_vaddr, p_paddr, p_filesz, p_memsz, p_flags (read, write, execute)
-- and p_align
abbrev pub segment_header : ℕ → Segment → List ℕ
segment_header offset s = words_bytes (1 ∷ offset ∷ s.0 ∷ s.0 ∷ size s ∷ size s ∷ 7 ∷ 4 ∷ [])

-- the program headers of segments whose bytes follow one another from an offset on
abbrev pub segment_headers : ℕ → List Segment → List ℕ
segment_headers offset [] = []
segment_headers offset (s ∷ ss) = segment_header offset s ++ segment_headers (offset + size s) ss

abbrev pub segment_bytes : List Segment → List ℕ
segment_bytes = flat_map (λ s. words_bytes s.1)

abbrev pub elf_bytes : ℕ → List Segment → List ℕ
elf_bytes entry ss =
    file_header entry (length ss) ++ segment_headers (52 + 32 * length ss) ss ++ segment_bytes ss
