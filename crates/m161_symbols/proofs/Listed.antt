use Rattle.std.specs.Prelude.{ℕ, zero, suc, ◌+◌, ◌<◌, ◌≤◌, List, [], ◌∷◌, ◌++◌, length, map, drop, take, string_bytes}
use Rattle.std.specs.List.{slice_index_or}
use Rattle.std.proofs.Common.{◌≡◌, refl, ap, sym, ◌∙◌, arith}
use mathlib.Core.List.{append_assoc, append-nil}
use Rattle.std.proofs.lemmas.List.{map-append}
use Rattle.m161_elf.specs.declared.symbol_table.Symbol.{Symbol}
use Rattle.m161_elf.specs.Symbols.{name_bytes}
use Rattle.m161_symbols.specs.declared.named.Named.{Named}
use Rattle.m161_symbols.specs.declared.named.Place.{Place}
use Rattle.m161_symbols.specs.Names.{named}
use Rattle.m161_symbols.specs.Table.{seen}
use Rattle.m161_symbols.specs.helpers.{places_from}

-- The symbols of a list, one after the other.

dropped : {C : Type 0} (cs : List C) (d : C) (i : ℕ) → i < length cs
    → drop i cs ≡ slice_index_or cs i d ∷ drop (i + 1) cs
dropped [] d i h = absurd (omega (arith, h))
dropped (c ∷ cs) d zero h = refl
dropped (c ∷ cs) d (suc i) h =
    let e : suc i + 1 ≡ suc (i + 1) = omega arith in rw e (dropped cs d i (omega (arith, h)))

ends : {C : Type 0} (cs : List C) (i : ℕ) → length cs ≤ i → drop i cs ≡ []
ends [] zero h = refl
ends [] (suc i) h = refl
ends (c ∷ cs) zero h = absurd (omega (arith, h))
ends (c ∷ cs) (suc i) h = ends cs i (omega (arith, h))

-- one place more
pub one_place : (symbols : List Named) (s : Named) (i : ℕ) (front all : List Place)
    → i < length symbols → s ≡ slice_index_or symbols i s
    → front ++ places_from i (map seen (drop i symbols)) ≡ all
    → (front ++ (record { value = s.value; number = i } ∷ []))
    ++ places_from (i + 1) (map seen (drop (i + 1) symbols)) ≡ all
one_place symbols s i front all h e k =
    let g : front ++ places_from i (map seen (slice_index_or symbols i s ∷ drop (i + 1) symbols))
    ≡ all = rw (dropped symbols s i h) at k in
    let m : front ++ places_from i (map seen (s ∷ drop (i + 1) symbols)) ≡ all = rw (← e) at g in
    append_assoc front (record { value = s.value; number = i } ∷ [])
    (places_from (i + 1) (map seen (drop (i + 1) symbols))) ∙ m

pub all_placed : (symbols : List Named) (i : ℕ) (front all : List Place) → length symbols ≤ i
    → front ++ places_from i (map seen (drop i symbols)) ≡ all → front ≡ all
all_placed symbols i front all h k =
    let g : front ++ [] ≡ all = rw (ends symbols i h) at k in
    sym (append-nil front) ∙ g

taken : {C : Type 0} (cs : List C) (d : C) (i : ℕ) → i < length cs
    → take (i + 1) cs ≡ take i cs ++ (slice_index_or cs i d ∷ [])
taken [] d i h = absurd (omega (arith, h))
taken (c ∷ cs) d zero h = refl
taken (c ∷ cs) d (suc i) h =
    let e : suc i + 1 ≡ suc (i + 1) = omega arith in
    rw e (ap (λ xs. c ∷ xs) (taken cs d i (omega (arith, h))))

-- one symbol more with its name
pub one_named : (file : List ℕ) (listed : List Symbol) (d : Symbol) (i : ℕ) (old new : List Named)
    (n : Named) → i < length listed → new ≡ old ++ (n ∷ [])
    → string_bytes n.name ≡ name_bytes file (slice_index_or listed i d)
    → n.value ≡ (slice_index_or listed i d).value
    → map seen old ≡ map (named file) (take i listed)
    → map seen new ≡ map (named file) (take (i + 1) listed)
one_named file listed d i old new n h e s v k =
    rw (e, taken listed d i h)
    (map-append seen old (n ∷ [])
    ∙ rw (k, s, v) (sym (map-append (named file) (take i listed) (slice_index_or listed i d ∷ []))))

whole : {C : Type 0} (cs : List C) (i : ℕ) → length cs ≤ i → take i cs ≡ cs
whole [] zero h = refl
whole [] (suc i) h = refl
whole (c ∷ cs) zero h = absurd (omega (arith, h))
whole (c ∷ cs) (suc i) h = ap (λ xs. c ∷ xs) (whole cs i (omega (arith, h)))

pub all_named : (file : List ℕ) (listed : List Symbol) (i : ℕ) (found : List Named)
    → length listed ≤ i → map seen found ≡ map (named file) (take i listed)
    → map seen found ≡ map (named file) listed
all_named file listed i found h k = k ∙ ap (map (named file)) (whole listed i h)
