use Rattle.std.specs.Prelude.{◌≡◌, ℕ, []}
use Rattle.m161_symbols.specs.Names.{place_behind, place_text}

-- Texts without symbols.

-- no address has a place
abbrev pub NoSymbolsNoPlaces : Type 0
NoSymbolsNoPlaces = (address : ℕ) → (place_text [] address ≡ []) × (place_behind [] address ≡ [])
