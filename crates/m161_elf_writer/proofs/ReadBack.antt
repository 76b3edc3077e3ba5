use Rattle.std.proofs.Common.{◌≡◌, ℕ, ◌+◌, ◌-◌, ◌*◌, ◌^◌, ◌<◌, ◌≤◌, List, [], ◌∷◌, ◌++◌, length, map, Bool, true, false, if◌then◌else◌, cond, Option, None, Some, slice_index, refl, sym, ◌∙◌, ap, append_assoc, arith}
use Rattle.std.specs.Prelude.{filter, find, nat_le, nat_lt, reverse, ◌&&◌}
use Rattle.std.specs.List.{range_with_len, AllByRecursion}
use Rattle.std.specs.Option.{option_map_or}
use Rattle.std.proofs.lemmas.List.{get_or-append-add, get_or_append_left, length-append, reverse-append}
use Rattle.std.proofs.lemmas.Bool.Decides.{nat_tests}
use Rattle.std.specs.Int.{w16, w32, to_be_bytes}
use Rattle.m161_asm.specs.Segments.{word_count}
use Rattle.m161_asm.specs.Text.{Segment}
use Rattle.m161_elf.specs.declared.header.ProgramHeader.{ProgramHeader}
use Rattle.m161_ram.specs.Word.{half_at, word_at}
use Rattle.m161_elf.specs.Header.{e_entry, e_phnum, header_at, is_load, segments}
use Rattle.m161_elf.specs.Image.{byte_left, covers, place_in_ram, segment_byte}
use Rattle.m161_elf_writer.specs.Written.{elf_bytes, file_header, segment_bytes, segment_header, segment_headers, size, words_bytes}
use Rattle.m161_elf_writer.specs.WrittenLaw.{byte_left_by, byte_of, has_byte}
use Rattle.std.proofs.lemmas.Bool.{and_parts}

-- What the loader reads of a file that was written.

-- half-words and words
pub half_behind : (before file : List ℕ) (at : ℕ)
    → half_at (before ++ file) (length before + at) ≡ half_at file at
half_behind before file at = grind (arith, get_or-append-add)

pub word_behind : (before file : List ℕ) (place at : ℕ) → place ≡ length before + at
    → word_at (before ++ file) place ≡ word_at file at
word_behind before file place at e = rw e (grind (arith, get_or-append-add))

pub half_read : (half : ℕ) → half < 2 ^ 16 → half_at (to_be_bytes w16 half) 0 ≡ half
half_read half fits = grind arith

pub word_read : (word : ℕ) → word < 2 ^ 32 → word_at (to_be_bytes w32 word) 0 ≡ word
word_read word fits = grind arith

-- the ELF header
pub entry_read : (entry count : ℕ) (rest : List ℕ) → entry < 2 ^ 32
    → e_entry (file_header entry count ++ rest) ≡ entry
entry_read entry count rest = word_read entry

pub count_read : (entry count : ℕ) (rest : List ℕ) → count < 2 ^ 16
    → e_phnum (file_header entry count ++ rest) ≡ count
count_read entry count rest = half_read count

-- the program headers
abbrev pub load_header : ℕ → Segment → ProgramHeader
load_header offset s = record {
  p_type = 1;
  p_offset = offset;
  p_vaddr = s.0;
  p_filesz = size s;
  p_memsz = size s;
}

abbrev pub load_headers : ℕ → List Segment → List ProgramHeader
load_headers offset [] = []
load_headers offset (s ∷ ss) = load_header offset s ∷ load_headers (offset + size s) ss

same_header : (h : ProgramHeader) (type offset address file memory : ℕ) → h.p_type ≡ type
    → h.p_offset ≡ offset → h.p_vaddr ≡ address → h.p_filesz ≡ file → h.p_memsz ≡ memory
    → h ≡ record {
      p_type = type;
      p_offset = offset;
      p_vaddr = address;
      p_filesz = file;
      p_memsz = memory;
    }
same_header h type offset address file memory a b c d e = rw (← a, ← b, ← c, ← d, ← e) refl

header_read : (before rest : List ℕ) (at offset : ℕ) (s : Segment) → at ≡ length before
    → offset < 2 ^ 32 → s.0 < 2 ^ 32 → size s < 2 ^ 32
    → header_at (before ++ (segment_header offset s ++ rest)) at ≡ load_header offset s
header_read before rest at offset s e low fits small =
    let file = segment_header offset s ++ rest in
    same_header (header_at (before ++ file) at) 1 offset s.0 (size s) (size s)
    (word_behind before file at 0 (omega (arith, e)))
    (word_behind before file (at + 4) 4 (omega (arith, e)) ∙ word_read offset low)
    (word_behind before file (at + 8) 8 (omega (arith, e)) ∙ word_read s.0 fits)
    (word_behind before file (at + 16) 16 (omega (arith, e)) ∙ word_read (size s) small)
    (word_behind before file (at + 20) 20 (omega (arith, e)) ∙ word_read (size s) small)

pub headers_from : (file before rest : List ℕ) (k offset : ℕ) (ss : List Segment)
    → file ≡ before ++ (segment_headers offset ss ++ rest) → length before ≡ 52 + 32 * k
    → AllByRecursion (λ s. s.0 < 2 ^ 32) ss → offset + 4 * word_count ss < 2 ^ 32
    → filter is_load (map (λ i. header_at file (52 + 32 * i)) (range_with_len k (length ss)))
    ≡ load_headers offset ss
headers_from file before rest k offset [] e long fit room = refl
headers_from file before rest k offset (s ∷ ss) e long fit room =
    let more = filter is_load
    (map (λ i. header_at file (52 + 32 * i)) (range_with_len (k + 1) (length ss))) in
    let mine = segment_header offset s in
    let left = segment_headers (offset + size s) ss in
    let split : file ≡ before ++ (mine ++ (left ++ rest)) = e
    ∙ ap (λ xs. before ++ xs) (append_assoc mine left rest) in
    let here : header_at file (52 + 32 * k) ≡ load_header offset s =
    rw split (header_read before (left ++ rest) (52 + 32 * k) offset s (sym long)
    (omega (arith, room)) fit.0 (omega (arith, room))) in
    let next : length (before ++ mine)
    ≡ 52 + 32 * (k + 1) = omega (arith, length-append before mine, long) in
    let behind = headers_from file (before ++ mine) rest (k + 1) (offset + size s) ss
    (split ∙ sym (append_assoc before mine (left ++ rest))) next fit.1 (omega (arith, room)) in
    ap (λ h. cond (is_load h) (h ∷ more) more) here ∙ ap (λ hs. load_header offset s ∷ hs) behind

pub segments_read : (entry : ℕ) (ss : List Segment) → length ss ≤ 1024
    → AllByRecursion (λ s. s.0 < 2 ^ 32) ss → word_count ss ≤ 4194304
    → segments (elf_bytes entry ss) ≡ load_headers (52 + 32 * length ss) ss
segments_read entry ss few fit room =
    let file = elf_bytes entry ss in
    ap (λ n. filter is_load (map (λ i. header_at file (52 + 32 * i)) (range_with_len 0 n)))
    (count_read entry (length ss) (segment_headers (52 + 32 * length ss) ss ++ segment_bytes ss)
    (omega (arith, few)))
    ∙ headers_from file (file_header entry (length ss)) (segment_bytes ss) 0
    (52 + 32 * length ss) ss refl refl fit (omega (arith, few, room))

-- the segments' bytes
pub length-words_bytes : (ws : List ℕ) → length (words_bytes ws) ≡ 4 * length ws
length-words_bytes [] = refl
length-words_bytes (w ∷ ws) = omega (arith, length-words_bytes ws)

pub length-segment_headers : (offset : ℕ) (ss : List Segment)
    → length (segment_headers offset ss) ≡ 32 * length ss
length-segment_headers offset [] = refl
length-segment_headers offset (s ∷ ss) = omega (arith, length-segment_headers (offset + size s) ss)

-- what the last element that passes a test has, or else another value
abbrev pub last_value : {X : Type 0} → (X → ℕ) → (X → Bool) → List X → ℕ → ℕ
last_value f test xs other = option_map_or f (find test (reverse xs)) other

value_of_one : {X : Type 0} (f : X → ℕ) (test : Bool) (x : X) (other : ℕ)
    → option_map_or f (cond test (Some x) None) other ≡ (if test then f x else other)
value_of_one f true x other = refl
value_of_one f false x other = refl

value_of_two : {X : Type 0} (f : X → ℕ) (test : Bool) (y : X) (a b : Option X) (other another : ℕ)
    → option_map_or f a other ≡ option_map_or f b another
    → option_map_or f (cond test (Some y) a) other ≡ option_map_or f (cond test (Some y) b) another
value_of_two f true y a b other another e = refl
value_of_two f false y a b other another e = e

first_or : {X : Type 0} (f : X → ℕ) (test : X → Bool) (xs : List X) (x : X) (other : ℕ) →
    option_map_or f (find test (xs ++ x ∷ [])) other
    ≡ option_map_or f (find test xs) (if test x then f x else other)
first_or f test [] x other = value_of_one f (test x) x other
first_or f test (y ∷ ys) x other =
    value_of_two f (test y) y (find test (ys ++ x ∷ [])) (find test ys) other
    (if test x then f x else other) (first_or f test ys x other)

pub last_value-cons : {X : Type 0} (f : X → ℕ) (test : X → Bool) (x : X) (xs : List X) (other : ℕ) →
    last_value f test (x ∷ xs) other ≡ last_value f test xs (if test x then f x else other)
last_value-cons f test x xs other =
    rw (reverse-append (x ∷ []) xs) (first_or f test (reverse xs) x other)

pub same_if : (test : Bool) (a b other : ℕ) → (test ≡ true → a ≡ b)
    → (if test then a else other) ≡ (if test then b else other)
same_if true a b other e = e refl
same_if false a b other e = refl

byte_in : (before mine rest : List ℕ) (offset i : ℕ) → length before ≡ offset → i < length mine
    → slice_index (before ++ (mine ++ rest)) (offset + i) ≡ slice_index mine i
byte_in before mine rest offset i e within =
    rw (← e) (get_or-append-add before (mine ++ rest) i 0 ∙ get_or_append_left mine rest 0 i within)

byte_at : (before mine rest : List ℕ) (offset place size at : ℕ) → length before ≡ offset
    → length mine ≡ size → (nat_le place at && nat_lt at (place + size)) ≡ true
    → (if nat_lt at (place + size)
    then slice_index (before ++ (mine ++ rest)) (offset + (at - place))
    else 0) ≡ slice_index mine (at - place)
byte_at before mine rest offset place size at e f here =
    let tests = and_parts (nat_le place at) (nat_lt at (place + size)) here in
    let within : at - place < length mine = grind (arith, nat_tests, tests.0, tests.1) in
    rw tests.1 (byte_in before mine rest offset (at - place) e within)

pub byte_read : (before rest : List ℕ) (offset at : ℕ) (s : Segment) → length before ≡ offset
    → has_byte at s ≡ true
    → segment_byte (before ++ (words_bytes s.1 ++ rest)) at (load_header offset s) ≡ byte_of at s
byte_read before rest offset at s e =
    byte_at before (words_bytes s.1) rest offset (place_in_ram s.0) (size s) at e
    (length-words_bytes s.1)

pub bytes_read : (file before : List ℕ) (offset : ℕ) (ss : List Segment) (at other : ℕ)
    → file ≡ before ++ segment_bytes ss → length before ≡ offset
    → last_value (segment_byte file at) (covers at) (load_headers offset ss) other
    ≡ last_value (byte_of at) (has_byte at) ss other
bytes_read file before offset [] at other e long = refl
bytes_read file before offset (s ∷ ss) at other e long =
    let rest = segment_bytes ss in
    let h = load_header offset s in
    let more = load_headers (offset + size s) ss in
    let here : has_byte at s ≡ true
    → segment_byte file at h
    ≡ byte_of at s = λ has. rw e (byte_read before rest offset at s long has) in
    let longer : length (before ++ words_bytes s.1)
    ≡ offset + size s =
    omega (arith, length-append before (words_bytes s.1), length-words_bytes s.1, long) in
    last_value-cons (segment_byte file at) (covers at) h more other
    ∙ ap (last_value (segment_byte file at) (covers at) more)
    (same_if (has_byte at s) _ _ other here)
    ∙ bytes_read file (before ++ words_bytes s.1) (offset + size s) ss at _
    (e ∙ sym (append_assoc before (words_bytes s.1) rest)) longer
    ∙ sym (last_value-cons (byte_of at) (has_byte at) s ss other)

-- The memory of an image: at each address the byte of the last segment that has one there.
pub memory_read : (entry : ℕ) (ss : List Segment) (at : ℕ) → length ss ≤ 1024
    → AllByRecursion (λ s. s.0 < 2 ^ 32) ss → word_count ss ≤ 4194304
    → byte_left (elf_bytes entry ss) (segments (elf_bytes entry ss)) at ≡ byte_left_by ss at
memory_read entry ss at few fit room =
    let file = elf_bytes entry ss in
    let first = 52 + 32 * length ss in
    let before = file_header entry (length ss) ++ segment_headers first ss in
    let long : length before ≡ first =
    omega (
      arith,
      length-append (file_header entry (length ss))
          (segment_headers first ss),
      length-segment_headers first ss,
    ) in
    ap (λ loaded. byte_left file loaded at) (segments_read entry ss few fit room)
    ∙ bytes_read file before first ss at 0
    (sym (append_assoc (file_header entry (length ss)) (segment_headers first ss)
    (segment_bytes ss))) long
