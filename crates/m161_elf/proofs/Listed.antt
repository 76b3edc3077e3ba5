use Rattle.std.proofs.Common.{◌≡◌, ◌≢◌, ℕ, ◌+◌, ◌-◌, ◌<◌, ◌≤◌, Bool, true, false, if◌then◌else◌, cond, List, [], ◌∷◌, ◌++◌, length, map, drop, None, Some, slice_index, get_or, refl, sym, ◌∙◌, ap, append-nil, arith, inl, inr}
use Rattle.std.specs.Prelude.{filter, nat_eq, nat_lt}
use Rattle.std.specs.List.{cons_option, range_with_len}
use Rattle.std.proofs.lemmas.Bool.{cases_lt}
use Rattle.std.proofs.lemmas.Bool.Decides.{nat_tests}
use Rattle.std.proofs.lemmas.List.{drop_all, length-drop, map-append, places}
use Rattle.std.proofs.lemmas.List.Folds.{list_any_at, list_any_none}
use Rattle.std.proofs.lemmas.List.FromFn.{filter_of_map_range_with_len_more}
use Rattle.m161_elf.specs.declared.symbol_table.Symbol.{Symbol}
use Rattle.m161_elf.specs.declared.symbol_table.SymbolEntry.{SymbolEntry}
use Rattle.m161_elf.specs.declared.symbol_table.SymbolTable.{SymbolTable}
use Rattle.m161_elf.specs.Symbols.{e_shnum, entries_among, entry, has_sections, is_listed, listed_among, section, sections, strings_of, symbol_of}
use Rattle.m161_elf.specs.helpers.Symbols.{has_zero, symbol_at}

-- The end of the names.

drop_index : (strings : List ℕ) (place k d : ℕ) → place + k < length strings →
    get_or (drop place strings) k d ≡ slice_index strings (place + k)
drop_index strings place k d within = grind (arith, places)

pub ends : (strings : List ℕ) (end place : ℕ) → end ≤ length strings
    → (0 < end → slice_index strings (end - 1) ≡ 0)
    → ((i : ℕ) → end ≤ i → i < length strings → slice_index strings i ≢ 0)
    → has_zero (drop place strings) ≡ nat_lt place end
ends strings end place within last none =
    elim (cases_lt place end) [
      | inl below ↦
          let k : ℕ = end - 1 - place in
          let there : slice_index strings (place + k) ≡ 0 =
          ap (slice_index strings) (omega arith) ∙ last (omega arith) in
          let here : nat_eq (get_or (drop place strings) k 0) 0 ≡ true =
          ap (λ b. nat_eq b 0) (drop_index strings place k 0 (omega arith) ∙ there) in
          let test : nat_lt place end ≡ true = grind (arith, nat_tests) in
          list_any_at (λ b. nat_eq b 0) (drop place strings) k 0
          (omega (arith, length-drop place strings)) here
          ∙ sym test
      | inr above ↦
          let test : nat_lt place end ≡ false = grind (arith, nat_tests) in
          list_any_none (λ b. nat_eq b 0) (drop place strings)
          (λ k d l.
          let inside : place + k < length strings = omega (arith, length-drop place strings) in
          let not_zero = none (place + k) (omega arith) inside in
          let e = drop_index strings place k d inside in
          grind (arith, nat_tests))
          ∙ sym test
    ]

-- One entry more.

as_list : (f : SymbolEntry → Symbol) (e : SymbolEntry) (test : Bool)
    → map f (cond test (e ∷ []) []) ≡ cons_option (if test then Some (f e) else None) []
as_list f e true = refl
as_list f e false = refl

pub listed_more : (file : List ℕ) (t : SymbolTable) (i : ℕ)
    → listed_among file t (i + 1) ≡ listed_among file t i ++ cons_option (symbol_at file t i) []
listed_more file t i =
    let strings = strings_of file t in
    let f = symbol_of strings t in
    let kept = is_listed strings in
    ap (map f) (filter_of_map_range_with_len_more kept (entry file t) 0 i i (omega arith))
    ∙ map-append f (filter kept (entries_among file t i))
    (cond (kept (entry file t i)) (entry file t i ∷ []) [])
    ∙ ap (λ ys. listed_among file t i ++ ys) (as_list f (entry file t i) (kept (entry file t i)))

pub listed_with : (file : List ℕ) (t : SymbolTable) (i : ℕ) (s : Symbol)
    → Some s ≡ symbol_at file t i
    → listed_among file t (i + 1) ≡ listed_among file t i ++ s ∷ []
listed_with file t i s found =
    listed_more file t i
    ∙ ap (λ o. listed_among file t i ++ cons_option o []) (sym found)

pub listed_without : (file : List ℕ) (t : SymbolTable) (i : ℕ) → None ≡ symbol_at file t i
    → listed_among file t (i + 1) ≡ listed_among file t i
listed_without file t i none =
    listed_more file t i
    ∙ ap (λ o. listed_among file t i ++ cons_option o []) (sym none)
    ∙ append-nil (listed_among file t i)

-- A zero byte behind a place.

pub zero_within : (strings : List ℕ) (place : ℕ) → has_zero (drop place strings) ≡ true
    → place < length strings
zero_within strings place ends =
    elim (cases_lt place (length strings)) [
      | inl below ↦ below
      | inr past ↦
          let none : has_zero (drop place strings) ≡ false =
          ap has_zero (drop_all place strings past) in
          absurd (cc)
    ]

-- The sections of a file that has some.

pub sections_are : (file : List ℕ) → has_sections file ≡ true →
    sections file ≡ map (section file) (range_with_len 0 (e_shnum file))
sections_are file has =
    ap (λ t. if t then map (section file) (range_with_len 0 (e_shnum file)) else []) has
