use Rattle.std.specs.Prelude.{ℕ, ◌+◌, ◌-◌, ◌*◌, ◌%◌, List, [], ◌∷◌, ◌++◌, length, replicate, codes}
use Rattle.std.specs.List.{flat_map}
use Rattle.m161_asm.specs.Text.{Segment}
use Rattle.m161_asm.specs.Segments.{word_count}
use Rattle.m161_elf_writer.specs.Written.{halves_bytes, identification, segment_bytes, segment_headers, words_bytes}

-- The file of a program with a symbol table of its labels, each a name with an address. ELF32
-- specification, "Sections", "String Table" and "Symbol Table"; which sections there are, and their
-- order, are this project's own.

-- the ELF header: as that of a file without sections, with e_shoff, e_shentsize, e_shnum, e_shstrndx
abbrev pub header_with_sections : ℕ → ℕ → ℕ → List ℕ
header_with_sections entry count sections =
    identification
    ++ halves_bytes (2 ∷ 8 ∷ [])
    ++ words_bytes (1 ∷ entry ∷ 52 ∷ sections ∷ 0 ∷ [])
    ++ halves_bytes (52 ∷ 32 ∷ count ∷ 40 ∷ 4 ∷ 3 ∷ [])

-- st_name, st_value and st_size; st_info (global, NOTYPE), st_other and st_shndx (SHN_ABS)
abbrev pub symbol_entry : ℕ → ℕ → List ℕ
symbol_entry name value = words_bytes (name ∷ value ∷ 0 ∷ []) ++ 16 ∷ 0 ∷ halves_bytes (0xfff1 ∷ [])

-- the entries of labels whose names follow one another in the strings from a place on
abbrev pub symbol_entries : ℕ → List (List ℕ × ℕ) → List ℕ
symbol_entries place [] = []
symbol_entries place (l ∷ ls) =
    symbol_entry place l.1 ++ symbol_entries (place + length l.0 + 1) ls

-- the null symbol, then the labels
abbrev pub symtab : List (List ℕ × ℕ) → List ℕ
symtab labels = replicate 16 0 ++ symbol_entries 1 labels

-- the labels' names, each with a zero byte behind it
abbrev pub label_names : List (List ℕ × ℕ) → List ℕ
label_names = flat_map (λ l. l.0 ++ 0 ∷ [])

-- the empty name, then those of the labels
abbrev pub strtab : List (List ℕ × ℕ) → List ℕ
strtab labels = 0 ∷ label_names labels

-- the empty name, and from 1, 9 and 17 on the names of the sections
abbrev pub shstrtab : List ℕ
shstrtab = 0 ∷ codes ".symtab" ++ 0 ∷ codes ".strtab" ++ 0 ∷ codes ".shstrtab" ++ 0 ∷ []

-- zeros up to the next multiple of 4
abbrev pub padding : ℕ → List ℕ
padding at = replicate ((4 - at % 4) % 4) 0

-- sh_name, sh_type, sh_flags, sh_addr, sh_offset, sh_size, sh_link, sh_info, sh_addralign and
-- sh_entsize
abbrev pub section_header : ℕ → ℕ → ℕ → ℕ → ℕ → ℕ → ℕ → ℕ → List ℕ
section_header name type offset size link info align entry =
    words_bytes (name ∷ type ∷ 0 ∷ 0 ∷ offset ∷ size ∷ link ∷ info ∷ align ∷ entry ∷ [])

-- the null section, .symtab (SHT_SYMTAB, whose names are in section 2, and the first of whose
-- symbols is local), .strtab and .shstrtab (SHT_STRTAB), which lie one behind the other
abbrev pub section_headers : ℕ → ℕ → ℕ → List ℕ
section_headers symbols names sections =
    replicate 40 0
    ++ section_header 1 2 symbols (names - symbols) 2 1 4 16
    ++ section_header 9 3 names (sections - names) 0 0 1 0
    ++ section_header 17 3 sections 27 0 0 1 0

-- where the sections begin that lie behind the segments
abbrev pub symbols_at : List Segment → ℕ
symbols_at ss = 52 + 32 * length ss + 4 * word_count ss

abbrev pub names_at : List Segment → List (List ℕ × ℕ) → ℕ
names_at ss labels = symbols_at ss + length (symtab labels)

abbrev pub sections_at : List Segment → List (List ℕ × ℕ) → ℕ
sections_at ss labels = names_at ss labels + length (strtab labels)

-- where the section headers begin
abbrev pub headers_at : List Segment → List (List ℕ × ℕ) → ℕ
headers_at ss labels =
    sections_at ss labels + 27 + length (padding (sections_at ss labels + 27))

-- what stands behind the segments
abbrev pub sections_bytes : List Segment → List (List ℕ × ℕ) → List ℕ
sections_bytes ss labels =
    symtab labels
    ++ strtab labels
    ++ shstrtab
    ++ padding (sections_at ss labels + 27)
    ++ section_headers (symbols_at ss) (names_at ss labels) (sections_at ss labels)

abbrev pub file_with_symbols : ℕ → List Segment → List (List ℕ × ℕ) → List ℕ
file_with_symbols entry ss labels =
    header_with_sections entry (length ss) (headers_at ss labels)
    ++ segment_headers (52 + 32 * length ss) ss
    ++ segment_bytes ss
    ++ sections_bytes ss labels
