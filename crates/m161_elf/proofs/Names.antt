use Rattle.std.proofs.Common.{◌≡◌, ℕ, ◌+◌, ◌≤◌, Bool, true, false, if◌then◌else◌, cond, List, [], ◌∷◌, length, map, drop, take, refl, sym, ◌∙◌, ap, arith}
use Rattle.std.specs.Prelude.{filter, nat_eq, nat_le, ◌&&◌}
use Rattle.std.specs.List.{list_all, All, AllByRecursion}
use Rattle.std.proofs.lemmas.Bool.{and_parts}
use Rattle.std.proofs.lemmas.Bool.Decides.{nat_tests}
use Rattle.std.proofs.lemmas.List.{length-drop, places, same_lists}
use Rattle.std.proofs.lemmas.List.Elements.{All-from_recursion}
use Rattle.m161_elf.specs.declared.symbol_table.SymbolEntry.{SymbolEntry}
use Rattle.m161_elf.specs.declared.symbol_table.SymbolTable.{SymbolTable}
use Rattle.m161_elf.specs.Symbols.{before_zero, count_of, entries_among, has_place, is_in_file, is_listed, is_named, is_shown, listed_among, name_bytes, name_of, strings_of, symbol_of, HasName}
use Rattle.m161_elf.specs.helpers.Symbols.{IsSoundTable}
use Rattle.m161_elf.proofs.Listed.{zero_within}

-- The names of the symbols, in the file.

front_more : (t : Bool) (b : ℕ) (bs : List ℕ) → take (length (before_zero bs)) bs ≡ before_zero bs
    → take (length (if t then [] else b ∷ before_zero bs)) (b ∷ bs)
    ≡ (if t then [] else b ∷ before_zero bs)
front_more true b bs rest = refl
front_more false b bs rest = ap (λ ys. b ∷ ys) rest

before_front : (bs : List ℕ) → take (length (before_zero bs)) bs ≡ before_zero bs
before_front [] = refl
before_front (b ∷ bs) = front_more (nat_eq b 0) b bs (before_front bs)

short_more : (t : Bool) (b : ℕ) (bs : List ℕ) → length (before_zero bs) ≤ length bs
    → length (if t then [] else b ∷ before_zero bs) ≤ length (b ∷ bs)
short_more true b bs rest = omega arith
short_more false b bs rest = omega (arith, rest)

before_short : (bs : List ℕ) → length (before_zero bs) ≤ length bs
before_short [] = omega arith
before_short (b ∷ bs) = short_more (nat_eq b 0) b bs (before_short bs)

part_of_part : (file : List ℕ) (offset size place n : ℕ) → place + n ≤ size →
    take n (drop place (take size (drop offset file))) ≡ take n (drop (offset + place) file)
part_of_part file offset size place n within =
    same_lists _ _ (grind (arith, places)) (λ k d h. grind (arith, places))

in_file : (file : List ℕ) (t : SymbolTable) → IsSoundTable file t →
    t.strings.sh_offset + t.strings.sh_size ≤ length file
in_file file t sound =
    let test = (and_parts (is_in_file file t.strings) _ sound.strings_are).0 in
    grind (arith, nat_tests, test)

has_name : (file : List ℕ) (t : SymbolTable) (e : SymbolEntry) → IsSoundTable file t
    → is_named (strings_of file t) e ≡ true → is_shown (name_of (strings_of file t) e) ≡ true
    → HasName file (symbol_of (strings_of file t) t e)
has_name file t e sound named shown =
    let strings = strings_of file t in
    let fits = in_file file t sound in
    let name = name_of strings e in
    let size : length strings ≡ t.strings.sh_size = grind (arith, places) in
    let inside = zero_within strings e.st_name named in
    let short = before_short (drop e.st_name strings) in
    let ends : e.st_name + length name ≤ t.strings.sh_size =
    omega (arith, size, short, inside, length-drop e.st_name strings) in
    let same : name_bytes file (symbol_of strings t e) ≡ name =
    sym (part_of_part file t.strings.sh_offset t.strings.sh_size e.st_name (length name) ends)
    ∙ before_front (drop e.st_name strings) in
    record {
      within = omega (arith, fits, ends);
      shown = ap is_shown same ∙ shown;
    }

all_named : (file : List ℕ) (t : SymbolTable) (es : List SymbolEntry) → IsSoundTable file t
    → list_all (is_named (strings_of file t)) es ≡ true
    → AllByRecursion (HasName file)
    (map (symbol_of (strings_of file t) t) (filter (is_listed (strings_of file t)) es))
all_named file t [] sound named = tt
all_named file t (e ∷ es) sound named =
    let strings = strings_of file t in
    let parts = and_parts (is_named strings e) _ named in
    by parts.0 (all_named file t es sound parts.1) (is_listed strings e) refl
  where
    by : is_named (strings_of file t) e ≡ true
        → AllByRecursion (HasName file)
        (map (symbol_of (strings_of file t) t) (filter (is_listed (strings_of file t)) es))
        → (test : Bool) → is_listed (strings_of file t) e ≡ test
        → AllByRecursion (HasName file)
        (map (symbol_of (strings_of file t) t)
        (cond test (e ∷ filter (is_listed (strings_of file t)) es)
        (filter (is_listed (strings_of file t)) es)))
    by here rest false is = rest
    by here rest true is =
        let tests =
        and_parts (has_place e && nat_le e.st_type 2) (is_shown (name_of (strings_of file t) e)) is
        in (has_name file t e sound here tests.1, rest)

pub listed_named : (file : List ℕ) (t : SymbolTable) → IsSoundTable file t
    → list_all (is_named (strings_of file t)) (entries_among file t (count_of t)) ≡ true
    → All (HasName file) (listed_among file t (count_of t))
listed_named file t sound named =
    All-from_recursion _ _ (all_named file t (entries_among file t (count_of t)) sound named)
