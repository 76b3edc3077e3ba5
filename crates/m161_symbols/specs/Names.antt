use Rattle.std.specs.Prelude.{ℕ, zero, suc, ◌+◌, ◌-◌, ◌^◌, ◌==◌, nat_le, if◌then◌else◌, bytes_eq, List, [], ◌∷◌, ◌++◌, map, find, count_by, Option, None, Some}
use Rattle.std.specs.List.{range_with_len}
use Rattle.std.specs.Map.{lookup}
use Rattle.std.specs.Option.{option_or}
use Rattle.m161_elf.specs.declared.symbol_table.Symbol.{Symbol}
use Rattle.m161_elf.specs.Symbols.{name_bytes, symbols_in}
use Rattle.m161_text.specs.Parts.{hex_text}

-- Names of addresses: a list of symbols, each a name and a value, in the order of their table.

-- the symbols of a file
abbrev pub named : List ℕ → Symbol → List ℕ × ℕ
named file s = (name_bytes file s, s.value)

abbrev pub names_in : List ℕ → List (List ℕ × ℕ)
names_in file = map (named file) (symbols_in file)

-- the value of a name: that of the first symbol with this name
abbrev pub value_in : List (List ℕ × ℕ) → List ℕ → Option ℕ
value_in symbols name = lookup (bytes_eq name) symbols

-- the first symbol with this value
abbrev pub first_of : List (List ℕ × ℕ) → ℕ → Option (List ℕ × ℕ)
first_of symbols value = find (λ s. s.1 == value) symbols

-- the first symbol with the greatest value that isn't above an address: the first one of the
-- address itself, or else that of the address below
unfoldable pub symbol_below : List (List ℕ × ℕ) → ℕ → Option (List ℕ × ℕ)
symbol_below symbols zero = first_of symbols 0
symbol_below symbols (suc below) =
    option_or (first_of symbols (suc below)) (symbol_below symbols below)

-- its name, and the distance from it
abbrev pub with_distance : ℕ → Option (List ℕ × ℕ) → Option (List ℕ × ℕ)
with_distance address None = None
with_distance address (Some s) = Some (s.0, address - s.1)

abbrev pub nearest_in : List (List ℕ × ℕ) → ℕ → Option (List ℕ × ℕ)
nearest_in symbols address = with_distance address (symbol_below symbols address)

-- how many hexadecimal digits a word has without leading zeros; 0 has one
abbrev pub hex_size : ℕ → ℕ
hex_size n = 1 + count_by (λ k. nat_le (16 ^ k) n) (range_with_len 1 7)

-- a place: <name>, or <name+N> with the distance in hexadecimal; nothing where there is no symbol
abbrev pub distance_text : ℕ → List ℕ
distance_text n = if n == 0 then [] else 43 ∷ hex_text (hex_size n) n

abbrev pub place_of : Option (List ℕ × ℕ) → List ℕ
place_of None = []
place_of (Some p) = 60 ∷ p.0 ++ distance_text p.1 ++ 62 ∷ []

abbrev pub place_text : List (List ℕ × ℕ) → ℕ → List ℕ
place_text symbols address = place_of (nearest_in symbols address)

-- the place behind an address in a text, with a space before it; nothing where there is no symbol
abbrev pub behind_of : Option (List ℕ × ℕ) → List ℕ
behind_of None = []
behind_of (Some p) = 32 ∷ place_of (Some p)

abbrev pub place_behind : List (List ℕ × ℕ) → ℕ → List ℕ
place_behind symbols address = behind_of (nearest_in symbols address)
