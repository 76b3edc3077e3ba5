use Rattle.std.proofs.Common.{◌≡◌, ℕ, ◌+◌, ◌*◌, ◌%◌, ◌^◌, ◌<◌, List, [], ◌∷◌, ◌++◌, length, map, take, drop, Bool, true, false, cond, refl, sym, ◌∙◌, ap, append_assoc, arith}
use Rattle.std.specs.Prelude.{filter, nat_lt, slice_index, ◌==◌, ◌||◌}
use Rattle.std.specs.List.{list_all, list_any, range_with_len, AllByRecursion}
use Rattle.std.proofs.lemmas.Bool.{and_parts}
use Rattle.std.proofs.lemmas.Bool.Decides.{nat_tests}
use Rattle.std.proofs.lemmas.List.{get_or-append-add, length-append}
use Rattle.std.proofs.Math.Seq.{drop-append_seam, take-append_seam}
use Rattle.m161_ram.specs.Word.{half_at}
use Rattle.m161_elf.specs.declared.symbol_table.SymbolEntry.{SymbolEntry}
use Rattle.m161_elf.specs.Symbols.{before_zero, entry_at, is_listed, is_named, is_shown, name_of}
use Rattle.m161_elf_writer.specs.Labels.{label_names, symbol_entries, symbol_entry}
use Rattle.m161_elf_writer.specs.LabelsLaw.{is_label_shown, IsLabel}
use Rattle.m161_elf_writer.proofs.ReadBack.{word_behind, half_behind, word_read}

-- The symbols of labels, read back: their entries, and their names.

-- how many bytes the names take
abbrev pub names_size : List (List ℕ × ℕ) → ℕ
names_size [] = 0
names_size (l ∷ ls) = length l.0 + 1 + names_size ls

pub length-label_names : (ls : List (List ℕ × ℕ)) → length (label_names ls) ≡ names_size ls
length-label_names [] = refl
length-label_names (l ∷ ls) =
    omega (
      arith,
      length-append (l.0 ++ 0 ∷ []) (label_names ls),
      length-append l.0 (0 ∷ []),
      length-label_names ls,
    )

pub length-symbol_entries : (place : ℕ) (ls : List (List ℕ × ℕ))
    → length (symbol_entries place ls) ≡ 16 * length ls
length-symbol_entries place [] = refl
length-symbol_entries place (l ∷ ls) =
    omega (arith, length-symbol_entries (place + length l.0 + 1) ls)

-- the entries of labels
abbrev pub label_entry : ℕ → ℕ → SymbolEntry
label_entry place value = record {
  st_name = place;
  st_value = value;
  st_type = 0;
  st_shndx = 0xfff1;
}

abbrev pub label_entries : ℕ → List (List ℕ × ℕ) → List SymbolEntry
label_entries place [] = []
label_entries place (l ∷ ls) =
    label_entry place l.1 ∷ label_entries (place + length l.0 + 1) ls

same_entry : (e : SymbolEntry) (name value type section : ℕ) → e.st_name ≡ name
    → e.st_value ≡ value → e.st_type ≡ type → e.st_shndx ≡ section
    → e ≡ record { st_name = name; st_value = value; st_type = type; st_shndx = section }
same_entry e name value type section a b c d = rw (← a, ← b, ← c, ← d) refl

pub byte_behind : (before file : List ℕ) (place at : ℕ) → place ≡ length before + at
    → slice_index (before ++ file) place ≡ slice_index file at
byte_behind before file place at e = rw e (grind (arith, get_or-append-add))

pub half_from : (before file : List ℕ) (place at : ℕ) → place ≡ length before + at
    → half_at (before ++ file) place ≡ half_at file at
half_from before file place at e = rw e (half_behind before file at)

entry_read : (before rest : List ℕ) (at place value : ℕ) → at ≡ length before
    → place < 2 ^ 32 → value < 2 ^ 32
    → entry_at (before ++ (symbol_entry place value ++ rest)) at ≡ label_entry place value
entry_read before rest at place value e low fits =
    let file = symbol_entry place value ++ rest in
    same_entry (entry_at (before ++ file) at) place value 0 0xfff1
    (word_behind before file at 0 (omega (arith, e)) ∙ word_read place low)
    (word_behind before file (at + 4) 4 (omega (arith, e)) ∙ word_read value fits)
    (ap (λ b. b % 16) (byte_behind before file (at + 12) 12 (omega (arith, e))))
    (half_from before file (at + 14) 14 (omega (arith, e)))

pub entries_from : (file before rest : List ℕ) (start k place : ℕ) (ls : List (List ℕ × ℕ))
    → file ≡ before ++ (symbol_entries place ls ++ rest) → length before ≡ start + 16 * k
    → AllByRecursion IsLabel ls → place + names_size ls < 2 ^ 32
    → map (λ i. entry_at file (start + 16 * i)) (range_with_len k (length ls))
    ≡ label_entries place ls
entries_from file before rest start k place [] e long are room = refl
entries_from file before rest start k place (l ∷ ls) e long are room =
    let more = map (λ i. entry_at file (start + 16 * i)) (range_with_len (k + 1) (length ls)) in
    let mine = symbol_entry place l.1 in
    let next = place + length l.0 + 1 in
    let left = symbol_entries next ls in
    let split : file ≡ before ++ (mine ++ (left ++ rest)) = e
    ∙ ap (λ xs. before ++ xs) (append_assoc mine left rest) in
    let here : entry_at file (start + 16 * k) ≡ label_entry place l.1 =
    rw split (entry_read before (left ++ rest) (start + 16 * k) place l.1 (sym long)
    (omega (arith, room)) are.0.1) in
    let longer : length (before ++ mine) ≡ start + 16 * (k + 1) =
    omega (arith, length-append before mine, long) in
    let behind = entries_from file (before ++ mine) rest start (k + 1) next ls
    (split ∙ sym (append_assoc before mine (left ++ rest))) longer are.1 (omega (arith, room)) in
    ap (λ h. h ∷ more) here ∙ ap (λ hs. label_entry place l.1 ∷ hs) behind

-- a name before a zero byte
not_zero : (b : ℕ) → nat_lt 0 b ≡ true → (b == 0) ≡ false
not_zero b above = grind (arith, nat_tests)

pub name_before : (name rest : List ℕ) → list_all (nat_lt 0) name ≡ true
    → before_zero (name ++ 0 ∷ rest) ≡ name
name_before [] rest all = refl
name_before (b ∷ bs) rest all =
    let parts = and_parts (nat_lt 0 b) (list_all (nat_lt 0) bs) all in
    rw (not_zero b parts.0) (ap (λ xs. b ∷ xs) (name_before bs rest parts.1))

or_true : (a b : Bool) → b ≡ true → (a || b) ≡ true
or_true true b e = refl
or_true false b e = e

pub zero_behind : (name rest : List ℕ) → list_any (λ b. b == 0) (name ++ 0 ∷ rest) ≡ true
zero_behind [] rest = refl
zero_behind (b ∷ bs) rest = or_true (b == 0) _ (zero_behind bs rest)

-- what is behind a part
pub drop_behind : (whole before rest : List ℕ) (place : ℕ) → whole ≡ before ++ rest
    → length before ≡ place → drop place whole ≡ rest
drop_behind whole before rest place e long = rw (e, ← long) (drop-append_seam before rest)

-- the names of labels' entries
pub are_named : (strings before : List ℕ) (place : ℕ) (ls : List (List ℕ × ℕ))
    → strings ≡ before ++ label_names ls → length before ≡ place
    → list_all (is_named strings) (label_entries place ls) ≡ true
are_named strings before place [] e long = refl
are_named strings before place (l ∷ ls) e long =
    let more = label_names ls in
    let here : strings ≡ before ++ (l.0 ++ 0 ∷ more) = e
    ∙ ap (λ xs. before ++ xs) (append_assoc l.0 (0 ∷ []) more) in
    let next : strings ≡ (before ++ (l.0 ++ 0 ∷ [])) ++ more = e
    ∙ sym (append_assoc before (l.0 ++ 0 ∷ []) more) in
    let longer : length (before ++ (l.0 ++ 0 ∷ [])) ≡ place + length l.0 + 1 =
    omega (
      arith,
      length-append before (l.0 ++ 0 ∷ []),
      length-append l.0 (0 ∷ []),
      long,
    ) in
    let named : list_any (λ b. b == 0) (drop place strings) ≡ true =
    rw (drop_behind strings before (l.0 ++ 0 ∷ more) place here long) (zero_behind l.0 more) in
    rw named (are_named strings (before ++ (l.0 ++ 0 ∷ [])) (place + length l.0 + 1) ls next longer)

five : (a b c d e : List ℕ) → a ++ ((b ++ (c ++ d)) ++ e) ≡ (a ++ b) ++ (c ++ (d ++ e))
five a b c d e = simp append_assoc

-- what is told of an entry: its name in the file, and its value
abbrev pub told : List ℕ → List ℕ → ℕ → SymbolEntry → List ℕ × ℕ
told file strings start e =
    (take (length (name_of strings e)) (drop (start + e.st_name) file), e.st_value)

told_of : (test shown : Bool) (t l : List ℕ × ℕ) (ts ls : List (List ℕ × ℕ)) → test ≡ shown
    → t ≡ l → ts ≡ ls → cond test (t ∷ ts) ts ≡ cond shown (l ∷ ls) ls
told_of test shown t l ts ls a b c = rw (a, b, c) refl

map_cond : {X Y : Type 0} (f : X → Y) (test : Bool) (x : X) (xs : List X) →
    map f (cond test (x ∷ xs) xs) ≡ cond test (f x ∷ map f xs) (map f xs)
map_cond f true x xs = refl
map_cond f false x xs = refl

pub labels_told : (file strings ahead behind before : List ℕ) (start place : ℕ)
    (ls : List (List ℕ × ℕ))
    → file ≡ ahead ++ (strings ++ behind) → length ahead ≡ start
    → strings ≡ before ++ label_names ls → length before ≡ place
    → AllByRecursion IsLabel ls
    → map (told file strings start) (filter (is_listed strings) (label_entries place ls))
    ≡ filter is_label_shown ls
labels_told file strings ahead behind before start place [] f at e long are = refl
labels_told file strings ahead behind before start place (l ∷ ls) f at e long are =
    let more = label_names ls in
    let rest = label_entries (place + length l.0 + 1) ls in
    let mine = label_entry place l.1 in
    let here : strings ≡ before ++ (l.0 ++ 0 ∷ more) = e
    ∙ ap (λ xs. before ++ xs) (append_assoc l.0 (0 ∷ []) more) in
    let next : strings ≡ (before ++ (l.0 ++ 0 ∷ [])) ++ more = e
    ∙ sym (append_assoc before (l.0 ++ 0 ∷ []) more) in
    let longer : length (before ++ (l.0 ++ 0 ∷ [])) ≡ place + length l.0 + 1 =
    omega (
      arith,
      length-append before (l.0 ++ 0 ∷ []),
      length-append l.0 (0 ∷ []),
      long,
    ) in
    let name : name_of strings mine ≡ l.0 =
    ap before_zero (drop_behind strings before (l.0 ++ 0 ∷ more) place here long)
    ∙ name_before l.0 more are.0.0 in
    let whole : file ≡ (ahead ++ before) ++ (l.0 ++ (0 ∷ more ++ behind)) = f
    ∙ ap (λ s. ahead ++ (s ++ behind)) here
    ∙ five ahead before l.0 (0 ∷ more) behind in
    let dropped : drop (start + place) file ≡ l.0 ++ (0 ∷ more ++ behind) =
    drop_behind file (ahead ++ before) (l.0 ++ (0 ∷ more ++ behind)) (start + place) whole
    (omega (arith, length-append ahead before, at, long)) in
    let same : told file strings start mine ≡ l =
    ap (λ n. (take (length n) (drop (start + place) file), l.1)) name
    ∙ ap (λ bytes. (take (length l.0) bytes, l.1)) dropped
    ∙ ap (λ bytes. (bytes, l.1)) (take-append_seam l.0 (0 ∷ more ++ behind)) in
    map_cond (told file strings start) (is_listed strings mine) mine
    (filter (is_listed strings) rest)
    ∙ told_of (is_listed strings mine) (is_label_shown l) (told file strings start mine) l
    (map (told file strings start) (filter (is_listed strings) rest)) (filter is_label_shown ls)
    (ap is_shown name) same
    (labels_told file strings ahead behind (before ++ (l.0 ++ 0 ∷ [])) start
    (place + length l.0 + 1) ls f at next longer are.1)
