use Rattle.std.specs.Prelude.{◌≡◌, ℕ, find, bytes_eq, ◌<◌, Bool, nat_eq, List, length, map, Option, None, Some, string_bytes}
use Rattle.std.specs.Global.{Global}
use Rattle.std.specs.HashMap.{HashMap}
use Rattle.std.specs.List.{slice_get}
use Rattle.std.specs.List.Sorted.{IsNonDecreasingBy}
use Rattle.std.specs.Map.{lookup}
use Rattle.std.specs.Prelude.{String}
use Rattle.std.proofs.Common.{Bor}
use Rattle.m161_symbols.specs.Names.{first_of, value_in}
use Rattle.m161_symbols.specs.declared.named.Named.{Named}
use Rattle.m161_symbols.specs.declared.named.Place.{Place}

-- How symbols are found: by their names, and by their values.

-- a symbol of the code
abbrev pub seen : Named → List ℕ × ℕ
seen s = (string_bytes s.name, s.value)

abbrev pub has_value : ℕ → Place → Bool
has_value value p = nat_eq p.value value

-- the values don't fall
abbrev pub IsRising : List Place → Type 0
IsRising = IsNonDecreasingBy (λ p. p.value)

-- the symbol whose number a place has
abbrev pub symbol_of : List (List ℕ × ℕ) → Option Place → Option (List ℕ × ℕ)
symbol_of symbols None = None
symbol_of symbols (Some p) = slice_get symbols p.number

-- places that rise, by which the first symbol of each value is found
pub record ArePlaces (symbols : List (List ℕ × ℕ)) (places : List Place) : Type 0 where
  pub rising : IsRising places
  pub firsts : (value : ℕ) →
      first_of symbols value ≡ symbol_of symbols (find (has_value value) places)
  pub numbers : (value : ℕ) (p : Place) → find (has_value value) places ≡ Some p
      → p.number < length symbols

-- what a map of names sees
abbrev pub entry_seen : String Global × ℕ → List ℕ × ℕ
entry_seen e = (string_bytes e.0, e.1)

abbrev pub entries_seen : {S : Type 0} → HashMap (String Global) ℕ S → List (List ℕ × ℕ)
entries_seen m = map entry_seen m.entries

-- a map by which the value of each name is found
abbrev pub AreFound : {S : Type 0} → List (List ℕ × ℕ) → HashMap (String Global) ℕ S → Type 0
AreFound symbols m =
    (name : List ℕ) → lookup (bytes_eq name) (entries_seen m) ≡ value_in symbols name

-- a name with a distance
abbrev pub read_place : Bor (List ℕ) × ℕ → List ℕ × ℕ
read_place p = (p.0.now, p.1)
