use Rattle.std.specs.Prelude.{◌≡◌, ◌⊎◌, ℕ, List, Option, None, Some}
use Rattle.std.specs.Str.{IsUtf8}
use Rattle.m161_symbols.specs.Names.{names_in, nearest_in, value_in}
use Rattle.m161_c.specs.declared.session.Session.{Session}

-- The symbols of a file.

-- a value is told, if there is one
abbrev pub TellsValue : Option ℕ → ℕ → ℕ → ℕ → Type 0
TellsValue None answer before after = (answer ≡ 24) × (after ≡ before)
TellsValue (Some value) answer before after = (answer ≡ 0) × (after ≡ value)

-- the value of the first symbol with this name; no symbol is looked for where that isn't UTF-8, or memory
-- was refused
abbrev pub ValueAs : List ℕ → List ℕ → ℕ → ℕ → ℕ → Type 0
ValueAs file name answer before after =
    IsUtf8 name
    × ((answer ≡ 254) × (after ≡ before)
    ⊎ TellsValue (value_in (names_in file) name) answer before after)
    ⊎ (IsUtf8 name → ⊥) × (answer ≡ 253) × (after ≡ before)

-- the nearest symbol: its name becomes the session's bytes, and the distance is told; or nothing is changed
abbrev pub KeepsPlace : Option (List ℕ × ℕ) → ℕ → ℕ → ℕ → Session → Session → Type 0
KeepsPlace None answer before after s t = (answer ≡ 24) × (after ≡ before) × (t ≡ s)
KeepsPlace (Some place) answer before after s t =
    (answer ≡ 0) × (after ≡ place.1) × (t.machine ≡ s.machine) × (t.bytes.items ≡ place.0)

abbrev pub NearestAs : List ℕ → ℕ → ℕ → ℕ → ℕ → Session → Session → Type 0
NearestAs file address answer before after s t =
    (answer ≡ 254) × (after ≡ before) × (t ≡ s)
    ⊎ KeepsPlace (nearest_in (names_in file) address) answer before after s t
