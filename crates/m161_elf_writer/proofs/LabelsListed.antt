use Rattle.std.proofs.Common.{◌≡◌, ℕ, suc, replicate, ◌+◌, ◌-◌, ◌*◌, ◌%◌, ◌^◌, ◌<◌, ◌≤◌, List, [], ◌∷◌, ◌++◌, length, map, take, drop, true, false, None, Some, refl, sym, ◌∙◌, ap, append_assoc, arith}
use Rattle.std.specs.Prelude.{filter, find, nat_le, if◌then◌else◌, ◌==◌, ◌&&◌}
use Rattle.std.specs.List.{list_all, range_with_len, slice_get, AllByRecursion}
use Rattle.std.specs.Option.{option_map_or}
use Rattle.std.proofs.lemmas.Bool.Decides.{nat_tests}
use Rattle.std.proofs.lemmas.List.{length-append}
use Rattle.std.proofs.lemmas.Simd.{map-map}
use Rattle.std.proofs.Math.Seq.{take-append_seam}
use Rattle.m161_ram.specs.Word.{word_at}
use Rattle.m161_asm.specs.Seen.{symbols_seen}
use Rattle.m161_asm.specs.Segments.{segments_seen}
use Rattle.m161_elf.specs.declared.sections.SectionHeader.{SectionHeader}
use Rattle.m161_elf.specs.declared.symbol_table.Symbol.{Symbol}
use Rattle.m161_elf.specs.declared.symbol_table.SymbolEntry.{SymbolEntry}
use Rattle.m161_elf.specs.declared.symbol_table.SymbolTable.{SymbolTable}
use Rattle.m161_elf.specs.Image.{is_not_elf32_big, is_truncated}
use Rattle.m161_elf.specs.Symbols.{count_of, e_shentsize, e_shnum, e_shoff, entries_among, entry_at, first_table, has_entries, has_sections, has_strings, is_listed, is_named, is_symbol_table, listed_among, name_bytes, section, section_at, sections, sound_table, strings_of, symbol_of, symbol_table, symbols_of}
use Rattle.m161_elf_writer.specs.Labels.{header_with_sections, headers_at, names_at, padding, section_headers, sections_at, shstrtab, strtab, symbol_entries, symbols_at, symtab}
use Rattle.m161_elf_writer.specs.LabelsLaw.{is_label_shown, labelled, IsLabel, LabelsAreListed}
use Rattle.m161_elf_writer.specs.Written.{segment_bytes, segment_headers}
use Rattle.m161_elf_writer.proofs.LabelsRead.{are_named, byte_behind, drop_behind, entries_from, half_from, label_entries, labels_told, length-label_names, length-symbol_entries, names_size, told}
use Rattle.m161_elf_writer.proofs.ReadBack.{length-segment_headers, word_behind, word_read}
use Rattle.m161_elf_writer.proofs.WrittenFaults.{length-segment_bytes, not_below}

-- The symbols of a program's file are its labels.

below : (small large : ℕ) → small ≤ large → nat_le small large ≡ true
below small large e = grind (arith, nat_tests)

is_zero : (n : ℕ) → n ≡ 0 → (n == 0) ≡ true
is_zero n e = rw e refl

-- the section headers, read
abbrev pub section_of : ℕ → ℕ → ℕ → ℕ → ℕ → SectionHeader
section_of type offset size link entry = record {
  sh_type = type;
  sh_offset = offset;
  sh_size = size;
  sh_link = link;
  sh_entsize = entry;
}

same_section : (h : SectionHeader) (type offset size link entry : ℕ) → h.sh_type ≡ type
    → h.sh_offset ≡ offset → h.sh_size ≡ size → h.sh_link ≡ link → h.sh_entsize ≡ entry
    → h ≡ section_of type offset size link entry
same_section h type offset size link entry a b c d e = rw (← a, ← b, ← c, ← d, ← e) refl

-- four headers behind a front of the file
abbrev pub four : ℕ → ℕ → ℕ → List SectionHeader
four symbols names strings =
    section_of 0 0 0 0 0
    ∷ section_of 2 symbols (names - symbols) 2 16
    ∷ section_of 3 names (strings - names) 0 0
    ∷ section_of 3 strings 27 0 0
    ∷ []

module _ (front : List ℕ) (symbols names strings headers : ℕ) where
  abbrev pub table : List ℕ
  table = section_headers symbols names strings

  field : (at place value : ℕ) → place ≡ headers + at → length front ≡ headers
      → word_at table at ≡ value → word_at (front ++ table) place ≡ value
  field at place value e long is =
      word_behind front table place at (omega (arith, e, long)) ∙ is

  pub read_sections : length front ≡ headers → symbols < 2 ^ 32 → names < 2 ^ 32 → strings < 2 ^ 32
      → map (λ i. section_at (front ++ table) (headers + 40 * i)) (range_with_len 0 4)
      ≡ four symbols names strings
  read_sections long s n x =
      let file = front ++ table in
      let null = same_section (section_at file (headers + 40 * 0)) 0 0 0 0 0
      (field 4 _ 0 (omega arith) long refl) (field 16 _ 0 (omega arith) long refl)
      (field 20 _ 0 (omega arith) long refl) (field 24 _ 0 (omega arith) long refl)
      (field 36 _ 0 (omega arith) long refl) in
      let one = same_section (section_at file (headers + 40 * 1)) 2 symbols (names - symbols) 2 16
      (field 44 _ 2 (omega arith) long refl)
      (field 56 _ symbols (omega arith) long (word_read symbols s))
      (field 60 _ (names - symbols) (omega arith) long
      (word_read (names - symbols) (omega arith)))
      (field 64 _ 2 (omega arith) long refl) (field 76 _ 16 (omega arith) long refl) in
      let two = same_section (section_at file (headers + 40 * 2)) 3 names (strings - names) 0 0
      (field 84 _ 3 (omega arith) long refl)
      (field 96 _ names (omega arith) long (word_read names n))
      (field 100 _ (strings - names) (omega arith) long
      (word_read (strings - names) (omega arith)))
      (field 104 _ 0 (omega arith) long refl) (field 116 _ 0 (omega arith) long refl) in
      let three = same_section (section_at file (headers + 40 * 3)) 3 strings 27 0 0
      (field 124 _ 3 (omega arith) long refl)
      (field 136 _ strings (omega arith) long (word_read strings x))
      (field 140 _ 27 (omega arith) long refl)
      (field 144 _ 0 (omega arith) long refl) (field 156 _ 0 (omega arith) long refl) in
      let rest1 = section_at file (headers + 40 * 1) ∷ section_at file (headers + 40 * 2)
      ∷ section_at file (headers + 40 * 3) ∷ [] in
      let rest2 = section_at file (headers + 40 * 2) ∷ section_at file (headers + 40 * 3) ∷ [] in
      ap (λ h. h ∷ rest1) null
      ∙ ap (λ h. section_of 0 0 0 0 0 ∷ h ∷ rest2) one
      ∙ ap (λ h. section_of 0 0 0 0 0 ∷ section_of 2 symbols (names - symbols) 2 16 ∷ h
      ∷ section_at file (headers + 40 * 3) ∷ []) two
      ∙ ap (λ h. section_of 0 0 0 0 0 ∷ section_of 2 symbols (names - symbols) 2 16
      ∷ section_of 3 names (strings - names) 0 0 ∷ h ∷ []) three

-- a file with such a table
has_table : (file : List ℕ) (headers : ℕ) → is_truncated file ≡ false
    → is_not_elf32_big file ≡ false → e_shentsize file ≡ 40 → e_shnum file ≡ 4
    → e_shoff file ≡ headers → headers + 160 ≤ length file → has_sections file ≡ true
unfolding has_sections
has_table file headers a b c d e room =
    rw (a, b, c, d, e) (below (headers + 160) (length file) room)

sections_are : (file : List ℕ) (headers : ℕ) (hs : List SectionHeader) → has_sections file ≡ true
    → e_shnum file ≡ 4 → e_shoff file ≡ headers
    → map (λ i. section_at file (headers + 40 * i)) (range_with_len 0 4) ≡ hs
    → sections file ≡ hs
sections_are file headers hs has count at read =
    ap (λ b. if b then map (section file) (range_with_len 0 (e_shnum file)) else []) has
    ∙ ap (λ n. map (section file) (range_with_len 0 n)) count
    ∙ ap (λ h. map (λ i. section_at file (h + 40 * i)) (range_with_len 0 4)) at
    ∙ read

abbrev pub table_of : ℕ → ℕ → ℕ → SymbolTable
table_of symbols names strings = record {
  entries = section_of 2 symbols (names - symbols) 2 16;
  strings = section_of 3 names (strings - names) 0 0;
}

table_is : (file : List ℕ) (symbols names strings count : ℕ)
    → sections file ≡ four symbols names strings
    → names ≡ symbols + 16 * count → count ≤ 2 ^ 20 → names ≤ strings → strings ≤ length file
    → symbol_table file ≡ Some (table_of symbols names strings)
unfolding symbol_table
table_is file symbols names strings count are e few order room =
    let t = section_of 2 symbols (names - symbols) 2 16 in
    let s = section_of 3 names (strings - names) 0 0 in
    let entries : has_entries file t ≡ true =
    rw (
      below (symbols + (names - symbols)) (length file) (omega arith),
      is_zero ((names - symbols) % 16) (omega (arith, e)),
      below (names - symbols) (2 ^ 24) (omega (arith, e, few)),
    ) refl in
    let names_are : has_strings file s ≡ true =
    rw (below (names + (strings - names)) (length file) (omega arith)) refl in
    ap (λ hs. first_table file (find is_symbol_table hs)) are
    ∙ ap (λ hs. sound_table file t (slice_get hs 2)) are
    ∙ ap (λ b. if b && has_strings file s then Some (table_of symbols names strings) else None)
    entries
    ∙ ap (λ b. if b then Some (table_of symbols names strings) else None) names_are

-- the entries of such a table: the null symbol, then the labels
abbrev pub null_entry : SymbolEntry
null_entry = record { st_name = 0; st_value = 0; st_type = 0; st_shndx = 0 }

same_null : (e : SymbolEntry) → e.st_name ≡ 0 → e.st_value ≡ 0 → e.st_type ≡ 0 → e.st_shndx ≡ 0
    → e ≡ null_entry
same_null e a b c d =
    ap (λ n. record { st_name = n; st_value = e.st_value; st_type = e.st_type; st_shndx = e.st_shndx }) a
    ∙ ap (λ n. record { st_name = 0; st_value = n; st_type = e.st_type; st_shndx = e.st_shndx }) b
    ∙ ap (λ n. record { st_name = 0; st_value = 0; st_type = n; st_shndx = e.st_shndx }) c
    ∙ ap (λ n. record { st_name = 0; st_value = 0; st_type = 0; st_shndx = n }) d

-- what is told of a symbol
abbrev pub symbol_told : List ℕ → Symbol → List ℕ × ℕ
symbol_told file s = (name_bytes file s, s.value)

-- a file with symbols and strings of labels, and bytes before and behind
module _ (ahead behind : List ℕ) (symbols names : ℕ) (ls : List (List ℕ × ℕ)) where
  abbrev pub file : List ℕ
  file = ahead ++ (symtab ls ++ (strtab ls ++ behind))

  abbrev pub strings : ℕ
  strings = names + length (strtab ls)

  null_read : length ahead ≡ symbols → entry_at file (symbols + 16 * 0) ≡ null_entry
  null_read long =
      let rest = symtab ls ++ (strtab ls ++ behind) in
      let at = symbols + 16 * 0 in
      same_null (entry_at file at)
      (word_behind ahead rest at 0 (omega (arith, long)))
      (word_behind ahead rest (at + 4) 4 (omega (arith, long)))
      (ap (λ b. b % 16) (byte_behind ahead rest (at + 12) 12 (omega (arith, long))))
      (half_from ahead rest (at + 14) 14 (omega (arith, long)))

  entries_are : length ahead ≡ symbols → AllByRecursion IsLabel ls → 1 + names_size ls < 2 ^ 32
      → map (λ i. entry_at file (symbols + 16 * i)) (range_with_len 0 (suc (length ls)))
      ≡ null_entry ∷ label_entries 1 ls
  entries_are long are room =
      let null = replicate 16 0 in
      let rest = strtab ls ++ behind in
      let before = ahead ++ null in
      let split : file ≡ before ++ (symbol_entries 1 ls ++ rest) =
      sym (append_assoc ahead null (symbol_entries 1 ls ++ rest)) in
      let longer : length before ≡ symbols + 16 * 1 =
      omega (arith, length-append ahead null, long) in
      let more = map (λ i. entry_at file (symbols + 16 * i)) (range_with_len 1 (length ls)) in
      ap (λ e. e ∷ more) (null_read long)
      ∙ ap (λ es. null_entry ∷ es)
      (entries_from file before rest symbols 1 1 ls split longer are room)

  split_at_strings : file ≡ (ahead ++ symtab ls) ++ (strtab ls ++ behind)
  split_at_strings = sym (append_assoc ahead (symtab ls) (strtab ls ++ behind))

  strings_are : length (ahead ++ symtab ls) ≡ names
      → take (strings - names) (drop names file) ≡ strtab ls
  strings_are long =
      let size : strings - names ≡ length (strtab ls) = omega arith in
      ap (λ n. take n (drop names file)) size
      ∙ ap (take (length (strtab ls)))
      (drop_behind file (ahead ++ symtab ls) (strtab ls ++ behind) names split_at_strings long)
      ∙ take-append_seam (strtab ls) behind

  pub symbols_are : length ahead ≡ symbols → length (ahead ++ symtab ls) ≡ names
      → AllByRecursion IsLabel ls → 1 + names_size ls < 2 ^ 32
      → count_of (table_of symbols names strings) ≡ suc (length ls)
      → map (symbol_told file) (symbols_of file (table_of symbols names strings))
      ≡ filter is_label_shown ls
  symbols_are long longer are room count =
      let t = table_of symbols names strings in
      let said = strings_of file t in
      let entries = entries_among file t (count_of t) in
      let es : entries ≡ null_entry ∷ label_entries 1 ls =
      ap (λ n. map (λ i. entry_at file (symbols + 16 * i)) (range_with_len 0 n)) count
      ∙ entries_are long are room in
      let same : said ≡ strtab ls = strings_are longer in
      let named : list_all (is_named said) entries ≡ true =
      ap (λ s. list_all (is_named s) entries) same
      ∙ ap (list_all (is_named (strtab ls))) es
      ∙ are_named (strtab ls) (0 ∷ []) 1 ls refl refl in
      ap (λ b. map (symbol_told file) (if b then listed_among file t (count_of t) else [])) named
      ∙ map-map (symbol_told file) (symbol_of said t) (filter (is_listed said) entries)
      ∙ ap (λ s. map (told file s names) (filter (is_listed s) entries)) same
      ∙ ap (λ xs. map (told file (strtab ls) names) (filter (is_listed (strtab ls)) xs)) es
      ∙ labels_told file (strtab ls) (ahead ++ symtab ls) behind (0 ∷ []) names 1 ls
      split_at_strings longer refl refl are

-- the file of a program
five_apart : (a b c d e f : List ℕ) → a ++ ((((b ++ c) ++ d) ++ e) ++ f) ≡ a ++ (b ++ (c ++ (d ++ (e ++ f))))
five_apart a b c d e f = simp append_assoc

pub labels_listed : LabelsAreListed
labels_listed p are few short =
    let ss = segments_seen p.segments.items in
    let ls = symbols_seen p.symbols in
    let symbols = symbols_at ss in
    let names = names_at ss ls in
    let strings = sections_at ss ls in
    let headers = headers_at ss ls in
    let pad = padding (strings + 27) in
    let table = section_headers symbols names strings in
    let header = header_with_sections p.entry (length ss) headers in
    let heads = segment_headers (52 + 32 * length ss) ss in
    let ahead = (header ++ heads) ++ segment_bytes ss in
    let middle = ((symtab ls ++ strtab ls) ++ shstrtab) ++ pad in
    let front = ahead ++ middle in
    let behind = shstrtab ++ (pad ++ table) in
    let whole = labelled p in
    let split : whole ≡ front ++ table = sym (append_assoc ahead middle table) in
    let parts : whole ≡ ahead ++ (symtab ls ++ (strtab ls ++ behind)) =
    five_apart ahead (symtab ls) (strtab ls) shstrtab pad table in
    let long_ahead : length ahead ≡ symbols =
    omega (
      arith,
      length-append (header ++ heads) (segment_bytes ss),
      length-append header heads,
      length-segment_headers (52 + 32 * length ss) ss,
      length-segment_bytes ss,
    ) in
    let long_names : length (ahead ++ symtab ls) ≡ names =
    omega (arith, length-append ahead (symtab ls), long_ahead) in
    let long_middle : length middle ≡ length (symtab ls) + length (strtab ls) + 27 + length pad =
    omega (
      arith,
      length-append ((symtab ls ++ strtab ls) ++ shstrtab) pad,
      length-append (symtab ls ++ strtab ls) shstrtab,
      length-append (symtab ls) (strtab ls),
    ) in
    let long_front : length front ≡ headers =
    omega (arith, length-append ahead middle, long_ahead, long_middle) in
    let long_whole : length whole ≡ headers + 160 =
    ap length split ∙ omega (arith, length-append front table, long_front) in
    let entries : length (symtab ls) ≡ 16 * suc (length ls) =
    omega (arith, length-symbol_entries 1 ls) in
    let said : length (strtab ls) ≡ 1 + names_size ls = omega (arith, length-label_names ls) in
    let at : e_shoff whole ≡ headers = word_read headers (omega (arith, long_whole, short)) in
    let has = has_table whole headers (not_below 52 (length whole) (omega (arith, long_whole)))
    refl refl refl at (omega (arith, long_whole)) in
    let read = ap (λ f. map (λ i. section_at f (headers + 40 * i)) (range_with_len 0 4)) split
    ∙ read_sections front symbols names strings headers long_front
    (omega (arith, long_whole, short)) (omega (arith, long_whole, short))
    (omega (arith, long_whole, short)) in
    let sections = sections_are whole headers (four symbols names strings) has refl at read in
    let found = table_is whole symbols names strings (suc (length ls)) sections
    (omega (arith, entries)) (omega (arith, few)) (omega arith) (omega (arith, long_whole)) in
    let count : count_of (table_of symbols names strings) ≡ suc (length ls) =
    omega (arith, entries) in
    ap (λ t. map (symbol_told whole) (option_map_or (symbols_of whole) t [])) found
    ∙ ap (λ f. map (symbol_told f) (symbols_of f (table_of symbols names strings))) parts
    ∙ symbols_are ahead behind symbols names ls long_ahead long_names are
    (omega (arith, said, long_whole, short)) count
