use Rattle.std.proofs.Common.{◌≡◌, ℕ, ◌+◌, ◌*◌, ◌%◌, ◌<◌, ◌≤◌, List, [], ◌∷◌, ◌++◌, length, Bool, true, false, refl, ◌∙◌, ap, arith}
use Rattle.std.specs.Prelude.{nat_lt, not, ◌==◌, ◌&&◌, ◌||◌}
use Rattle.std.specs.List.{list_any, AllByRecursion, AllByRecursion-prop}
use Rattle.std.proofs.Math.Bridge.{le_prop}
use Rattle.std.proofs.Math.Logic.{∥∥₁_elim}
use Rattle.std.proofs.lemmas.Bool.Decides.{nat_tests}
use Rattle.std.proofs.lemmas.List.{length-append, length-map}
use Rattle.m161_asm.specs.Segments.{segment_seen, segments_seen, word_count, ArePlaced}
use Rattle.m161_asm.specs.Text.{Segment}
use Rattle.m161_elf.specs.declared.image.LoadError.TheVariants as fault
use Rattle.m161_elf.specs.Header.{segments}
use Rattle.m161_elf.specs.Image.{first_fault, has_bad_entry, has_bad_header_table, is_larger_in_file, is_not_elf32_big, is_not_executable, is_not_mips, is_outside_file, is_outside_ram, is_truncated}
use Rattle.m161_isa.specs.Choice.{first_answer}
use Rattle.m161_elf_writer.specs.Written.{elf_bytes, file_header, segment_bytes, segment_headers, size, words_bytes}
use Rattle.m161_elf_writer.specs.WrittenLaw.{is_entry_outside, lies_outside, WrittenHasFewFaults}
use Rattle.m161_elf_writer.proofs.ReadBack.{count_read, entry_read, length-segment_headers, length-words_bytes, load_headers, segments_read}
use Rattle.m161_elf_writer.proofs.WrittenLaw.{all_low}

-- The faults that the file of a program may have.

pub length-segment_bytes : (ss : List Segment) → length (segment_bytes ss) ≡ 4 * word_count ss
length-segment_bytes [] = refl
length-segment_bytes (s ∷ ss) =
    omega (
      arith,
      length-append (words_bytes s.1)
          (segment_bytes ss),
      length-words_bytes s.1,
      length-segment_bytes ss,
    )

pub length-elf_bytes : (entry : ℕ) (ss : List Segment)
    → length (elf_bytes entry ss) ≡ 52 + 32 * length ss + 4 * word_count ss
length-elf_bytes entry ss =
    let headers = segment_headers (52 + 32 * length ss) ss in
    omega (
      arith,
      length-append (file_header entry (length ss)) (headers ++ segment_bytes ss),
      length-append headers (segment_bytes ss),
      length-segment_headers (52 + 32 * length ss) ss,
      length-segment_bytes ss,
    )

pub not_below : (small large : ℕ) → small ≤ large → nat_lt large small ≡ false
not_below small large e = grind (arith, nat_tests)

and_false : (a b : Bool) → b ≡ false → (a && b) ≡ false
and_false true b e = e
and_false false b e = refl

pub none_outside_file : (file : List ℕ) (offset : ℕ) (ss : List Segment)
    → offset + 4 * word_count ss ≤ length file
    → list_any (is_outside_file file) (load_headers offset ss) ≡ false
none_outside_file file offset [] room = refl
none_outside_file file offset (s ∷ ss) room =
    let here = and_false (not (size s == 0)) _
    (not_below (offset + size s) (length file) (omega (arith, room))) in
    rw here (none_outside_file file (offset + size s) ss (omega (arith, room)))

pub none_larger : (offset : ℕ) (ss : List Segment)
    → list_any is_larger_in_file (load_headers offset ss) ≡ false
none_larger offset [] = refl
none_larger offset (s ∷ ss) =
    rw (not_below (size s) (size s) (omega arith)) (none_larger (offset + size s) ss)

has_some : (n : ℕ) (test : Bool) → 0 < n → (not (4 * n == 0) && test) ≡ test
has_some n true some = grind (arith, nat_tests)
has_some n false some = and_false (not (4 * n == 0)) false refl

pub outside_ram : (ram offset : ℕ) (ss : List Segment) → AllByRecursion (λ s. 0 < length s.1) ss
    → list_any (is_outside_ram ram) (load_headers offset ss) ≡ list_any (lies_outside ram) ss
outside_ram ram offset [] some = refl
outside_ram ram offset (s ∷ ss) some =
    let rest = list_any (is_outside_ram ram) (load_headers (offset + size s) ss) in
    ap (λ test. test || rest) (has_some (length s.1) (lies_outside ram s) some.0)
    ∙ ap (λ tests. lies_outside ram s || tests) (outside_ram ram (offset + size s) ss some.1)

pub some_from : (ss : List Segment) → ArePlaced ss → AllByRecursion (λ s. 0 < length s.1) ss
some_from [] placed = tt
some_from (s ∷ ss) placed = (placed.0.0, some_from ss placed.1)

pub has_table : (n length : ℕ) → 52 + 32 * n ≤ length
    → (not (n == 0) && (false || nat_lt length (52 + 32 * n))) ≡ false
has_table n length room = and_false (not (n == 0)) _ (not_below (52 + 32 * n) length room)

pub left : (t n x m h o r l e outside bad : Bool) → t ≡ false → n ≡ false → x ≡ false → m ≡ false
    → h ≡ false → o ≡ false → r ≡ outside → l ≡ false → e ≡ bad
    → first_answer ((t, fault.Truncated) ∷ (n, fault.NotElf32Big) ∷ (x, fault.NotExecutable)
    ∷ (m, fault.NotMips) ∷ (h, fault.BadHeaderTable)
    ∷ (o, fault.SegmentOutsideFile) ∷ (r, fault.SegmentOutsideRam) ∷ (l, fault.FileLargerThanMemory)
    ∷ (e, fault.BadEntry) ∷ [])
    ≡ first_answer ((outside, fault.SegmentOutsideRam) ∷ (bad, fault.BadEntry) ∷ [])
left t n x m h o r l e outside bad a b c d f g i j k = rw (a, b, c, d, f, g, i, j, k) refl

pub few_faults : WrittenHasFewFaults
unfolding first_fault
few_faults p ram fits =
    let ss = segments_seen p.segments.items in
    let file = elf_bytes p.entry ss in
    let first = 52 + 32 * length ss in
    let rest = segment_headers first ss ++ segment_bytes ss in
    let few : length ss ≤ 1024 = omega (arith, p.count, length-map p.segments.items segment_seen) in
    let long = length-elf_bytes p.entry ss in
    let loaded = segments_read p.entry ss few (all_low ss p.placed) p.words in
    let some = ∥∥₁_elim p.placed (AllByRecursion-prop (λ s. 0 < length s.1) (λ s. le_prop) ss)
    (some_from ss) in
    let count = count_read p.entry (length ss) rest (omega (arith, few)) in
    let table : has_bad_header_table file ≡ false =
    ap (λ n. not (n == 0) && (false || nat_lt (length file) (52 + 32 * n))) count
    ∙ has_table (length ss) (length file) (omega (arith, long)) in
    left (is_truncated file) (is_not_elf32_big file) (is_not_executable file) (is_not_mips file)
    (has_bad_header_table file)
    (list_any (is_outside_file file) (segments file))
    (list_any (is_outside_ram ram) (segments file)) (list_any is_larger_in_file (segments file))
    (has_bad_entry file ram)
    (list_any (lies_outside ram) ss) (is_entry_outside ram p.entry)
    (not_below 52 (length file) (omega (arith, long))) refl refl refl table
    (ap (list_any (is_outside_file file)) loaded
    ∙ none_outside_file file first ss (omega (arith, long)))
    (ap (list_any (is_outside_ram ram)) loaded ∙ outside_ram ram first ss some)
    (ap (list_any is_larger_in_file) loaded ∙ none_larger first ss)
    (ap (λ entry. not (entry % 4 == 0) || is_entry_outside ram entry)
    (entry_read p.entry (length ss) rest fits)
    ∙ ap (λ left. not (left == 0) || is_entry_outside ram p.entry) p.entry_aligned)
