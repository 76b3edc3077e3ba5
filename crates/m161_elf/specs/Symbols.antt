use Rattle.std.specs.Prelude.{◌≡◌, ℕ, ◌≤◌, true, ◌+◌, ◌*◌, ◌/◌, ◌%◌, ◌^◌, Bool, not, ◌==◌, nat_le, ◌&&◌, ◌||◌, if◌then◌else◌, List, [], ◌∷◌, length, map, filter, find, take, drop, slice_index, Option, None, Some}
use Rattle.std.specs.List.{list_all, list_any, range_with_len, slice_get}
use Rattle.std.specs.Option.{option_map_or}
use Rattle.m161_ram.specs.Word.{half_at, word_at}
use Rattle.m161_elf.specs.declared.sections.SectionHeader.{SectionHeader}
use Rattle.m161_elf.specs.declared.symbol_table.Symbol.{Symbol}
use Rattle.m161_elf.specs.declared.symbol_table.SymbolEntry.{SymbolEntry}
use Rattle.m161_elf.specs.declared.symbol_table.SymbolTable.{SymbolTable}
use Rattle.m161_elf.specs.Image.{is_not_elf32_big, is_truncated}

-- The symbols of a file. ELF32 specification, "Sections", "String Table" and "Symbol Table"; which
-- symbols are listed, and that a damaged table has none, are this project's own.

-- the fields of the ELF header
abbrev pub e_shoff : List ℕ → ℕ
e_shoff file = word_at file 32

abbrev pub e_shentsize : List ℕ → ℕ
e_shentsize file = half_at file 46

abbrev pub e_shnum : List ℕ → ℕ
e_shnum file = half_at file 48

-- the section header at an offset in the file
abbrev pub section_at : List ℕ → ℕ → SectionHeader
section_at file at = record {
  sh_type = word_at file (at + 4);
  sh_offset = word_at file (at + 16);
  sh_size = word_at file (at + 20);
  sh_link = word_at file (at + 24);
  sh_entsize = word_at file (at + 36);
}

-- section header i of the table
abbrev pub section : List ℕ → ℕ → SectionHeader
section file i = section_at file (e_shoff file + 40 * i)

-- the file has a table of section headers, all of it in the file
unfoldable pub has_sections : List ℕ → Bool
has_sections file =
    not (is_truncated file)
    && not (is_not_elf32_big file)
    && e_shentsize file == 40
    && nat_le (e_shoff file + 40 * e_shnum file) (length file)

-- the sections, in the table's order
abbrev pub sections : List ℕ → List SectionHeader
sections file =
    if has_sections file then map (section file) (range_with_len 0 (e_shnum file)) else []

-- SHT_SYMTAB
abbrev pub is_symbol_table : SectionHeader → Bool
is_symbol_table s = s.sh_type == 2

-- a section's bytes are in the file
abbrev pub is_in_file : List ℕ → SectionHeader → Bool
is_in_file file s = nat_le (s.sh_offset + s.sh_size) (length file)

-- the section has whole entries of 16 bytes, at most 1,048,576 of them
abbrev pub has_entries : List ℕ → SectionHeader → Bool
has_entries file s =
    is_in_file file s && s.sh_entsize == 16 && s.sh_size % 16 == 0 && nat_le s.sh_size (2 ^ 24)

-- SHT_STRTAB
abbrev pub has_strings : List ℕ → SectionHeader → Bool
has_strings file s = is_in_file file s && s.sh_type == 3

-- a symbol table and the section of its names, where both are sound
abbrev pub sound_table : List ℕ → SectionHeader → Option SectionHeader → Option SymbolTable
sound_table file t None = None
sound_table file t (Some s) =
    if has_entries file t && has_strings file s then Some (record { entries = t; strings = s })
    else None

-- the first symbol table, with the section that sh_link names
abbrev pub first_table : List ℕ → Option SectionHeader → Option SymbolTable
first_table file None = None
first_table file (Some t) = sound_table file t (slice_get (sections file) t.sh_link)

unfoldable pub symbol_table : List ℕ → Option SymbolTable
symbol_table file = first_table file (find is_symbol_table (sections file))

-- the entry at an offset in the file; st_type is the low half of st_info
abbrev pub entry_at : List ℕ → ℕ → SymbolEntry
entry_at file at = record {
  st_name = word_at file at;
  st_value = word_at file (at + 4);
  st_type = slice_index file (at + 12) % 16;
  st_shndx = half_at file (at + 14);
}

-- entry i of a symbol table
abbrev pub entry : List ℕ → SymbolTable → ℕ → SymbolEntry
entry file t i = entry_at file (t.entries.sh_offset + 16 * i)

-- the first entries of a symbol table
abbrev pub entries_among : List ℕ → SymbolTable → ℕ → List SymbolEntry
entries_among file t count = map (entry file t) (range_with_len 0 count)

-- the bytes of the names
abbrev pub strings_of : List ℕ → SymbolTable → List ℕ
strings_of file t = take t.strings.sh_size (drop t.strings.sh_offset file)

-- a name begins in the strings, and a zero byte stands behind it there
abbrev pub is_named : List ℕ → SymbolEntry → Bool
is_named strings e = list_any (λ b. b == 0) (drop e.st_name strings)

-- the bytes before the first zero byte
abbrev pub before_zero : List ℕ → List ℕ
before_zero [] = []
before_zero (b ∷ bs) = if b == 0 then [] else b ∷ before_zero bs

abbrev pub name_of : List ℕ → SymbolEntry → List ℕ
name_of strings e = before_zero (drop e.st_name strings)

-- a byte from ! to ~
abbrev pub is_visible : ℕ → Bool
is_visible b = nat_le 33 b && nat_le b 126

-- a name that is shown: 1 to 255 bytes, all of them visible
abbrev pub is_shown : List ℕ → Bool
is_shown name = nat_le 1 (length name) && nat_le (length name) 255 && list_all is_visible name

-- the symbol has a place: a section of the file, or SHN_ABS
abbrev pub has_place : SymbolEntry → Bool
has_place e = (nat_le 1 e.st_shndx && nat_le e.st_shndx 0xfeff) || e.st_shndx == 0xfff1

-- a symbol that is listed: it has a place, is of type NOTYPE, OBJECT or FUNC, and has a shown name
abbrev pub is_listed : List ℕ → SymbolEntry → Bool
is_listed strings e = has_place e && nat_le e.st_type 2 && is_shown (name_of strings e)

abbrev pub symbol_of : List ℕ → SymbolTable → SymbolEntry → Symbol
symbol_of strings t e = record {
  name_at = t.strings.sh_offset + e.st_name;
  name_len = length (name_of strings e);
  value = e.st_value;
}

-- the symbols that are listed among the first entries, in the table's order
abbrev pub listed_among : List ℕ → SymbolTable → ℕ → List Symbol
listed_among file t count =
    map (symbol_of (strings_of file t) t)
    (filter (is_listed (strings_of file t)) (entries_among file t count))

-- how many entries a symbol table has
abbrev pub count_of : SymbolTable → ℕ
count_of t = t.entries.sh_size / 16

-- the symbols of a table, none if the name of some entry is damaged
abbrev pub symbols_of : List ℕ → SymbolTable → List Symbol
symbols_of file t =
    if list_all (is_named (strings_of file t)) (entries_among file t (count_of t))
    then listed_among file t (count_of t) else []

-- the symbols of a file
abbrev pub symbols_in : List ℕ → List Symbol
symbols_in file = option_map_or (symbols_of file) (symbol_table file) []

-- the bytes of a symbol's name
abbrev pub name_bytes : List ℕ → Symbol → List ℕ
name_bytes file s = take s.name_len (drop s.name_at file)

-- a symbol's name is in the file, and shown
pub record HasName (file : List ℕ) (s : Symbol) : Type 0 where
  pub within : s.name_at + s.name_len ≤ length file
  pub shown : is_shown (name_bytes file s) ≡ true
