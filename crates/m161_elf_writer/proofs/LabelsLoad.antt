use Rattle.std.proofs.Common.{◌≡◌, ℕ, ◌+◌, ◌*◌, ◌^◌, ◌%◌, ◌<◌, ◌≤◌, List, [], ◌∷◌, ◌++◌, length, map, true, false, refl, sym, ◌∙◌, ap, append_assoc, arith}
use Rattle.std.specs.Prelude.{filter, nat_lt, not, ◌==◌, ◌&&◌, ◌||◌}
use Rattle.std.specs.List.{list_any, range_with_len, AllByRecursion, AllByRecursion-prop}
use Rattle.std.proofs.Math.Bridge.{le_prop}
use Rattle.std.proofs.Math.Logic.{∥∥₁_elim}
use Rattle.std.proofs.lemmas.List.{length-append, length-map}
use Rattle.m161_asm.specs.declared.program.Program.{Program}
use Rattle.m161_asm.specs.Seen.{symbols_seen}
use Rattle.m161_asm.specs.Segments.{segment_seen, segments_seen, word_count}
use Rattle.m161_asm.specs.Text.{Segment}
use Rattle.m161_elf.specs.Header.{e_entry, e_phnum, header_at, is_load, segments}
use Rattle.m161_elf.specs.Image.{byte_left, covers, first_fault, has_bad_entry, has_bad_header_table, is_larger_in_file, is_not_elf32_big, is_not_executable, is_not_mips, is_outside_file, is_outside_ram, is_truncated, segment_byte}
use Rattle.m161_elf.specs.declared.image.LoadError.TheVariants as fault
use Rattle.m161_isa.specs.Choice.{first_answer}
use Rattle.m161_elf_writer.specs.Labels.{header_with_sections, headers_at, sections_bytes}
use Rattle.m161_elf_writer.specs.LabelsLaw.{labelled, LoadsAlike}
use Rattle.m161_elf_writer.specs.Written.{segment_bytes, segment_headers, size, words_bytes}
use Rattle.m161_elf_writer.specs.WrittenLaw.{byte_left_by, byte_of, has_byte, is_entry_outside, lies_outside}
use Rattle.m161_elf_writer.proofs.ReadBack.{byte_read, entry_read, half_read, headers_from, last_value, last_value-cons, length-segment_headers, length-words_bytes, load_header, load_headers, memory_read, same_if, word_read}
use Rattle.m161_elf_writer.proofs.WrittenFaults.{few_faults, has_table, left, length-segment_bytes, none_larger, none_outside_file, not_below, outside_ram, some_from}
use Rattle.m161_elf_writer.proofs.WrittenLaw.{all_low}

-- The file of a program with symbols, loaded.

-- what is read of the segments' bytes, whatever stands behind them
bytes_before : (file before tail : List ℕ) (offset : ℕ) (ss : List Segment) (at other : ℕ)
    → file ≡ before ++ (segment_bytes ss ++ tail) → length before ≡ offset
    → last_value (segment_byte file at) (covers at) (load_headers offset ss) other
    ≡ last_value (byte_of at) (has_byte at) ss other
bytes_before file before tail offset [] at other e long = refl
bytes_before file before tail offset (s ∷ ss) at other e long =
    let rest = segment_bytes ss ++ tail in
    let h = load_header offset s in
    let more = load_headers (offset + size s) ss in
    let split : file ≡ before ++ (words_bytes s.1 ++ rest) = e
    ∙ ap (λ xs. before ++ xs) (append_assoc (words_bytes s.1) (segment_bytes ss) tail) in
    let here : has_byte at s ≡ true
    → segment_byte file at h
    ≡ byte_of at s = λ has. rw split (byte_read before rest offset at s long has) in
    let longer : length (before ++ words_bytes s.1)
    ≡ offset + size s =
    omega (arith, length-append before (words_bytes s.1), length-words_bytes s.1, long) in
    last_value-cons (segment_byte file at) (covers at) h more other
    ∙ ap (last_value (segment_byte file at) (covers at) more)
    (same_if (has_byte at s) _ _ other here)
    ∙ bytes_before file (before ++ words_bytes s.1) tail (offset + size s) ss at _
    (split ∙ sym (append_assoc before (words_bytes s.1) rest)) longer
    ∙ sym (last_value-cons (byte_of at) (has_byte at) s ss other)

-- a file that begins like a written one, with whatever stands behind the segments
module _ (entry sections : ℕ) (ss : List Segment) (tail : List ℕ) where
  abbrev pub first : ℕ
  first = 52 + 32 * length ss

  abbrev pub file : List ℕ
  file =
      header_with_sections entry (length ss) sections
      ++ (segment_headers first ss ++ (segment_bytes ss ++ tail))

  count : length ss ≤ 1024 → e_phnum file ≡ length ss
  count few = half_read (length ss) (omega (arith, few))

  pub entry_is : entry < 2 ^ 32 → e_entry file ≡ entry
  entry_is fits = word_read entry fits

  pub segments_are : length ss ≤ 1024 → AllByRecursion (λ s. s.0 < 2 ^ 32) ss
      → word_count ss ≤ 4194304 → segments file ≡ load_headers first ss
  segments_are few fit room =
      ap (λ n. filter is_load (map (λ i. header_at file (52 + 32 * i)) (range_with_len 0 n)))
      (count few)
      ∙ headers_from file (header_with_sections entry (length ss) sections)
      (segment_bytes ss ++ tail) 0 first ss refl refl fit (omega (arith, few, room))

  pub bytes_are : (at : ℕ) → length ss ≤ 1024 → AllByRecursion (λ s. s.0 < 2 ^ 32) ss
      → word_count ss ≤ 4194304 → byte_left file (segments file) at ≡ byte_left_by ss at
  bytes_are at few fit room =
      let header = header_with_sections entry (length ss) sections in
      let before = header ++ segment_headers first ss in
      let long : length before ≡ first =
      omega (
        arith,
        length-append header (segment_headers first ss),
        length-segment_headers first ss,
      ) in
      ap (λ loaded. byte_left file loaded at) (segments_are few fit room)
      ∙ bytes_before file before tail first ss at 0
      (sym (append_assoc header (segment_headers first ss) (segment_bytes ss ++ tail))) long

  pub long_enough : 52 + 32 * length ss + 4 * word_count ss ≤ length file
  long_enough =
      let header = header_with_sections entry (length ss) sections in
      let headers = segment_headers first ss in
      omega (
        arith,
        length-append header (headers ++ (segment_bytes ss ++ tail)),
        length-append headers (segment_bytes ss ++ tail),
        length-append (segment_bytes ss) tail,
        length-segment_headers first ss,
        length-segment_bytes ss,
      )

few_faults_before : (p : Program) (ram sections : ℕ) (tail : List ℕ) → p.entry < 2 ^ 32
    → first_fault (file p.entry sections (segments_seen p.segments.items) tail) ram
    ≡ first_answer (
    (list_any (lies_outside ram) (segments_seen p.segments.items), fault.SegmentOutsideRam)
    ∷ (is_entry_outside ram p.entry, fault.BadEntry)
    ∷ []
    )
unfolding first_fault
few_faults_before p ram sections tail fits =
    let ss = segments_seen p.segments.items in
    let w = file p.entry sections ss tail in
    let start = 52 + 32 * length ss in
    let few : length ss ≤ 1024 = omega (arith, p.count, length-map p.segments.items segment_seen) in
    let long = long_enough p.entry sections ss tail in
    let loaded = segments_are p.entry sections ss tail few (all_low ss p.placed) p.words in
    let some = ∥∥₁_elim p.placed (AllByRecursion-prop (λ s. 0 < length s.1) (λ s. le_prop) ss)
    (some_from ss) in
    let table : has_bad_header_table w ≡ false =
    ap (λ n. not (n == 0) && (false || nat_lt (length w) (52 + 32 * n)))
    (count p.entry sections ss tail few)
    ∙ has_table (length ss) (length w) (omega (arith, long)) in
    left (is_truncated w) (is_not_elf32_big w) (is_not_executable w) (is_not_mips w)
    (has_bad_header_table w) (list_any (is_outside_file w) (segments w))
    (list_any (is_outside_ram ram) (segments w)) (list_any is_larger_in_file (segments w))
    (has_bad_entry w ram) (list_any (lies_outside ram) ss) (is_entry_outside ram p.entry)
    (not_below 52 (length w) (omega (arith, long))) refl refl refl table
    (ap (list_any (is_outside_file w)) loaded
    ∙ none_outside_file w start ss (omega (arith, long)))
    (ap (list_any (is_outside_ram ram)) loaded ∙ outside_ram ram start ss some)
    (ap (list_any is_larger_in_file) loaded ∙ none_larger start ss)
    (ap (λ entry. not (entry % 4 == 0) || is_entry_outside ram entry)
    (entry_is p.entry sections ss tail fits)
    ∙ ap (λ low. not (low == 0) || is_entry_outside ram p.entry) p.entry_aligned)

pub loads_alike : LoadsAlike
loads_alike p ram fits =
    let ss = segments_seen p.segments.items in
    let labels = symbols_seen p.symbols in
    let sections = headers_at ss labels in
    let tail = sections_bytes ss labels in
    let headers = segment_headers (52 + 32 * length ss) ss in
    let few : length ss ≤ 1024 = omega (arith, p.count, length-map p.segments.items segment_seen) in
    let low = all_low ss p.placed in
    let same : labelled p ≡ file p.entry sections ss tail =
    ap (λ xs. header_with_sections p.entry (length ss) sections ++ xs)
    (append_assoc headers (segment_bytes ss) tail) in
    let entry : e_entry (labelled p) ≡ p.entry =
    ap e_entry same ∙ entry_is p.entry sections ss tail fits in
    let bytes : (at : ℕ) → byte_left (labelled p) (segments (labelled p)) at ≡ byte_left_by ss at =
    λ at. ap (λ f. byte_left f (segments f) at) same
    ∙ bytes_are p.entry sections ss tail at few low p.words in (
      ap (λ f. first_fault f ram) same ∙ few_faults_before p ram sections tail fits
          ∙ sym (few_faults p ram fits),
      λ first memory image. record {
        entry_is =
            image.entry_is
            ∙ entry_read p.entry (length ss) (headers ++ segment_bytes ss) fits
            ∙ sym entry;
        size_is = image.size_is;
        bytes_are = λ at h.
            image.bytes_are at h ∙ memory_read p.entry ss at few low p.words ∙ sym (bytes at);
      },
    )
