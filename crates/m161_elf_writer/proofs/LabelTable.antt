use Rattle.std.proofs.Common.{◌≡◌, ℕ, zero, suc, ◌+◌, ◌-◌, ◌*◌, ◌%◌, ◌^◌, ◌≤◌, List, [], ◌∷◌, ◌++◌, length, map, take, drop, replicate, Some, refl, sym, ◌∙◌, ap, append_assoc, append-nil, arith}
use Rattle.std.specs.List.{slice_get}
use Rattle.std.specs.Int.{w32, to_be_bytes}
use Rattle.std.proofs.lemmas.List.{drop_all, length-append, take_all}
use Rattle.m161_elf_writer.specs.Labels.{file_with_symbols, header_with_sections, headers_at, label_names, names_at, padding, section_header, section_headers, sections_at, sections_bytes, shstrtab, strtab, symbol_entries, symbol_entry, symbols_at, symtab}
use Rattle.m161_elf_writer.specs.Written.{elf_bytes, file_header, segment_bytes, segment_headers, words_bytes}
use Rattle.m161_elf_writer.proofs.WrittenFaults.{length-elf_bytes}
use Rattle.m161_asm.specs.Text.{Segment}
use borrow.Rule.Slice.PartMut.{put_mid}

-- The symbol table of labels.

-- a field of 32 bits holds the low bits of a number
pub low_bytes : (n : ℕ) → to_be_bytes w32 (n % 2 ^ 32) ≡ to_be_bytes w32 n
low_bytes n = grind arith

pub low_symbol : (place value : ℕ) → symbol_entry (place % 2 ^ 32) value ≡ symbol_entry place value
low_symbol place value =
    ap (λ bytes. bytes ++ words_bytes (value ∷ 0 ∷ []) ++ 16 ∷ 0 ∷ 0xff ∷ 0xf1 ∷ []) (low_bytes place)

pub low_symbols : (place other : ℕ) (ls : List (List ℕ × ℕ)) → place % 2 ^ 32 ≡ other % 2 ^ 32
    → symbol_entries place ls ≡ symbol_entries other ls
low_symbols place other [] e = refl
low_symbols place other (l ∷ ls) e =
    let here : symbol_entry place l.1 ≡ symbol_entry other l.1 =
    sym (low_symbol place l.1) ∙ ap (λ p. symbol_entry p l.1) e ∙ low_symbol other l.1 in
    let rest = low_symbols (place + length l.0 + 1) (other + length l.0 + 1) ls (omega (arith, e)) in
    ap (λ bytes. bytes ++ symbol_entries (place + length l.0 + 1) ls) here
    ∙ ap (λ bytes. symbol_entry other l.1 ++ bytes) rest

-- the labels from one on
pub drop_some : {X : Type 0} (xs : List X) (i j : ℕ) (x : X) → slice_get xs i ≡ Some x → j ≡ suc i
    → drop i xs ≡ x ∷ drop j xs
drop_some [] i j x found e = absurd (cc)
drop_some (y ∷ ys) zero j x found e = rw e (let same : y ≡ x = cc in ap (λ z. z ∷ ys) same)
drop_some (y ∷ ys) (suc i) j x found e = rw e (drop_some ys i (suc i) x found refl)

pub get_map : {X Y : Type 0} (f : X → Y) (xs : List X) (i : ℕ) (x : X) → slice_get xs i ≡ Some x
    → slice_get (map f xs) i ≡ Some (f x)
get_map f [] i x found = absurd (cc)
get_map f (y ∷ ys) zero x found = let same : y ≡ x = cc in ap (λ z. Some (f z)) same
get_map f (y ∷ ys) (suc i) x found = get_map f ys i x found

-- a symbol more before those that are left
pub symbol_more : (before after entries : List ℕ) (place next : ℕ) (l : List ℕ × ℕ)
    (left : List (List ℕ × ℕ)) → after ≡ before ++ symbol_entry place l.1
    → next % 2 ^ 32 ≡ (place + length l.0 + 1) % 2 ^ 32
    → before ++ symbol_entries place (l ∷ left) ≡ entries
    → after ++ symbol_entries next left ≡ entries
symbol_more before after entries place next l left e low is =
    ap (λ a. a ++ symbol_entries next left) e
    ∙ ap (λ bytes. before ++ symbol_entry place l.1 ++ bytes)
    (low_symbols next (place + length l.0 + 1) left low)
    ∙ append_assoc before (symbol_entry place l.1) (symbol_entries (place + length l.0 + 1) left)
    ∙ is

-- a name more before those that are left
pub name_more : (before after names : List ℕ) (l : List ℕ × ℕ) (left : List (List ℕ × ℕ))
    → after ≡ (before ++ l.0) ++ 0 ∷ []
    → before ++ label_names (l ∷ left) ≡ names
    → after ++ label_names left ≡ names
name_more before after names l left e is =
    ap (λ a. a ++ label_names left) e
    ∙ ap (λ a. a ++ label_names left) (append_assoc before l.0 (0 ∷ []))
    ∙ append_assoc before (l.0 ++ 0 ∷ []) (label_names left)
    ∙ is

-- a section header
pub low_header : (name type offset size link info align entry : ℕ) →
    words_bytes
    (name ∷ type ∷ 0 ∷ 0 ∷ offset % 2 ^ 32 ∷ size % 2 ^ 32 ∷ link ∷ info ∷ align ∷ entry ∷ [])
    ≡ section_header name type offset size link info align entry
low_header name type offset size link info align entry =
    let front = words_bytes (name ∷ type ∷ 0 ∷ 0 ∷ []) in
    let back = words_bytes (link ∷ info ∷ align ∷ entry ∷ []) in
    ap (λ bytes. front ++ (bytes ++ (to_be_bytes w32 (size % 2 ^ 32) ++ back))) (low_bytes offset)
    ∙ ap (λ bytes. front ++ (to_be_bytes w32 offset ++ (bytes ++ back))) (low_bytes size)

-- the ELF header
pub patched : (entry count headers : ℕ) (rest file a b d e : List ℕ)
    → file ≡ file_header entry count ++ rest → a ≡ to_be_bytes w32 (headers % 2 ^ 32)
    → b ≡ 0 ∷ 40 ∷ [] → d ≡ 0 ∷ 4 ∷ [] → e ≡ 0 ∷ 3 ∷ []
    → put_mid 50 2 (put_mid 48 2 (put_mid 46 2 (put_mid 32 4 file a) b) d) e
    ≡ header_with_sections entry count headers ++ rest
patched entry count headers rest file a b d e fe ae be de ee =
    let ah : a ≡ to_be_bytes w32 headers = ae ∙ low_bytes headers in
    rw (fe, ah, be, de, ee) refl

-- the section headers
header_by : (name type offset size link info align entry at bytes : ℕ) → at ≡ offset % 2 ^ 32
    → bytes ≡ size % 2 ^ 32
    → words_bytes (name ∷ type ∷ 0 ∷ 0 ∷ at ∷ bytes ∷ link ∷ info ∷ align ∷ entry ∷ [])
    ≡ section_header name type offset size link info align entry
header_by name type offset size link info align entry at bytes e f =
    ap (λ a. words_bytes (name ∷ type ∷ 0 ∷ 0 ∷ a ∷ bytes ∷ link ∷ info ∷ align ∷ entry ∷ [])) e
    ∙ ap (λ b.
    words_bytes
    (name ∷ type ∷ 0 ∷ 0 ∷ offset % 2 ^ 32 ∷ b ∷ link ∷ info ∷ align ∷ entry ∷ [])) f
    ∙ low_header name type offset size link info align entry

four_more : (a b c d e : List ℕ) → (((a ++ b) ++ c) ++ d) ++ e ≡ a ++ (((b ++ c) ++ d) ++ e)
four_more a b c d e = simp append_assoc

pub headers_more : (file f0 f1 f2 f3 : List ℕ) (symbols names sections a1 s1 a2 s2 a3 : ℕ)
    → f0 ≡ file ++ replicate 40 0
    → f1 ≡ f0 ++ words_bytes (1 ∷ 2 ∷ 0 ∷ 0 ∷ a1 ∷ s1 ∷ 2 ∷ 1 ∷ 4 ∷ 16 ∷ [])
    → f2 ≡ f1 ++ words_bytes (9 ∷ 3 ∷ 0 ∷ 0 ∷ a2 ∷ s2 ∷ 0 ∷ 0 ∷ 1 ∷ 0 ∷ [])
    → f3 ≡ f2 ++ words_bytes (17 ∷ 3 ∷ 0 ∷ 0 ∷ a3 ∷ 27 ∷ 0 ∷ 0 ∷ 1 ∷ 0 ∷ [])
    → a1 ≡ symbols % 2 ^ 32 → s1 ≡ (names - symbols) % 2 ^ 32
    → a2 ≡ names % 2 ^ 32 → s2 ≡ (sections - names) % 2 ^ 32 → a3 ≡ sections % 2 ^ 32
    → f3 ≡ file ++ section_headers symbols names sections
headers_more file f0 f1 f2 f3 symbols names sections a1 s1 a2 s2 a3 e0 e1 e2 e3 ea1 es1 ea2 es2
    ea3 =
    let h1 = section_header 1 2 symbols (names - symbols) 2 1 4 16 in
    let h2 = section_header 9 3 names (sections - names) 0 0 1 0 in
    let h3 = section_header 17 3 sections 27 0 0 1 0 in
    let one : f1 ≡ (file ++ replicate 40 0) ++ h1 =
    e1 ∙ ap (λ a. a ++ words_bytes (1 ∷ 2 ∷ 0 ∷ 0 ∷ a1 ∷ s1 ∷ 2 ∷ 1 ∷ 4 ∷ 16 ∷ [])) e0
    ∙ ap (λ b. (file ++ replicate 40 0) ++ b)
    (header_by 1 2 symbols (names - symbols) 2 1 4 16 a1 s1 ea1 es1) in
    let two : f2 ≡ ((file ++ replicate 40 0) ++ h1) ++ h2 =
    e2 ∙ ap (λ a. a ++ words_bytes (9 ∷ 3 ∷ 0 ∷ 0 ∷ a2 ∷ s2 ∷ 0 ∷ 0 ∷ 1 ∷ 0 ∷ [])) one
    ∙ ap (λ b. ((file ++ replicate 40 0) ++ h1) ++ b)
    (header_by 9 3 names (sections - names) 0 0 1 0 a2 s2 ea2 es2) in
    e3 ∙ ap (λ a. a ++ words_bytes (17 ∷ 3 ∷ 0 ∷ 0 ∷ a3 ∷ 27 ∷ 0 ∷ 0 ∷ 1 ∷ 0 ∷ [])) two
    ∙ ap (λ b. (((file ++ replicate 40 0) ++ h1) ++ h2) ++ b)
    (header_by 17 3 sections 27 0 0 1 0 a3 27 ea3 refl)
    ∙ four_more file (replicate 40 0) h1 h2 h3

-- the whole file
eight : (a b c d e f g h : List ℕ) →
    ((((((a ++ b) ++ c) ++ d) ++ e) ++ f) ++ g) ++ h
    ≡ a ++ ((b ++ c) ++ ((((d ++ e) ++ f) ++ g) ++ h))
eight a b c d e f g h = simp append_assoc

three_apart : (a b c d : List ℕ) → a ++ ((b ++ c) ++ d) ≡ ((a ++ b) ++ c) ++ d
three_apart a b c d = simp append_assoc

pub assembled : (entry : ℕ) (ss : List Segment) (labels : List (List ℕ × ℕ))
    (f0 f1 f2 f3 f4 f5 f6 : List ℕ) (symbols names strings headers : ℕ)
    → f0 ≡ elf_bytes entry ss → f1 ≡ f0 ++ symtab labels → f2 ≡ f1 ++ strtab labels
    → f3 ≡ f2 ++ shstrtab → f4 ≡ f3 ++ padding (length f3)
    → f5 ≡ f4 ++ section_headers symbols names strings
    → symbols ≡ length f0 → names ≡ length f1 → strings ≡ length f2 → headers ≡ length f4
    → ((entry count : ℕ) (rest : List ℕ) → f5 ≡ file_header entry count ++ rest
    → f6 ≡ header_with_sections entry count headers ++ rest)
    → f6 ≡ file_with_symbols entry ss labels
assembled entry ss labels f0 f1 f2 f3 f4 f5 f6 symbols names strings headers e0 e1 e2 e3 e4 e5 s n x
    h set =
    let s1 : symbols ≡ symbols_at ss = s ∙ ap length e0 ∙ length-elf_bytes entry ss in
    let n1 : names ≡ names_at ss labels =
    omega (arith, n, ap length e1, length-append f0 (symtab labels), s, s1) in
    let x1 : strings ≡ sections_at ss labels =
    omega (arith, x, ap length e2, length-append f1 (strtab labels), n, n1) in
    let long : length f3 ≡ sections_at ss labels + 27 =
    omega (arith, ap length e3, length-append f2 shstrtab, x, x1) in
    let pad = padding (sections_at ss labels + 27) in
    let e4s : f4 ≡ f3 ++ pad = e4 ∙ ap (λ at. f3 ++ padding at) long in
    let h1 : headers ≡ headers_at ss labels =
    omega (arith, h, ap length e4s, length-append f3 pad, long) in
    let table = section_headers (symbols_at ss) (names_at ss labels) (sections_at ss labels) in
    let e5s : f5 ≡ f4 ++ table = e5
    ∙ ap (λ a. f4 ++ section_headers a names strings) s1
    ∙ ap (λ a. f4 ++ section_headers (symbols_at ss) a strings) n1
    ∙ ap (λ a. f4 ++ section_headers (symbols_at ss) (names_at ss labels) a) x1 in
    let heads = segment_headers (52 + 32 * length ss) ss in
    let rest = (heads ++ segment_bytes ss) ++ sections_bytes ss labels in
    let start = file_header entry (length ss) in
    let all : f5 ≡ start ++ rest = e5s
    ∙ ap (λ f. f ++ table) (e4s ∙ ap (λ f. f ++ pad) (e3 ∙ ap (λ f. f ++ shstrtab)
    (e2 ∙ ap (λ f. f ++ strtab labels) (e1 ∙ ap (λ f. f ++ symtab labels) e0))))
    ∙ eight start heads (segment_bytes ss) (symtab labels) (strtab labels) shstrtab pad table in
    let header = header_with_sections entry (length ss) (headers_at ss labels) in
    set entry (length ss) rest all
    ∙ ap (λ at. header_with_sections entry (length ss) at ++ rest) h1
    ∙ three_apart header heads (segment_bytes ss) (sections_bytes ss labels)

-- bytes behind a file make it no shorter
pub longer : (before after more : List ℕ) → after ≡ before ++ more → length before ≤ length after
longer before after more e = omega (arith, ap length e, length-append before more)

-- a whole file written over
pub written_back : (len : ℕ) (set items whole : List ℕ) → length set ≡ length items
    → len ≡ length items → set ≡ whole → take len (set ++ drop (length set) items) ≡ whole
written_back len set items whole e f is =
    ap (λ left. take len (set ++ left)) (drop_all (length set) items (omega (arith, e)))
    ∙ ap (take len) (append-nil set) ∙ take_all len set (omega (arith, e, f)) ∙ is
