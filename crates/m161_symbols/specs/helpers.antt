use Rattle.std.specs.Prelude.{ℕ, bytes_eq, ◌+◌, ◌<◌, ◌≤◌, if◌then◌else◌, List, [], ◌∷◌, ◌++◌, length, Option, None, Some}
use Rattle.std.specs.List.{slice_get, slice_index_or}
use Rattle.std.specs.Map.{lookup}
use Rattle.std.specs.Option.{is_some}
use Rattle.m161_symbols.specs.declared.named.Place.{Place}

-- The parts of a table of names.

-- the values of symbols with their numbers, from a number on
abbrev pub places_from : ℕ → List (List ℕ × ℕ) → List Place
places_from number [] = []
places_from number (s ∷ ss) = record { value = s.1; number = number } ∷ places_from (number + 1) ss

-- the first places, and no others, have a value below a bound
pub record Splits (bound count : ℕ) (places : List Place) : Type 0 where
  pub within : count ≤ length places
  pub below : (i : ℕ) (d : Place) → i < count → (slice_index_or places i d).value < bound
  pub above : (i : ℕ) (d : Place) → count ≤ i → i < length places
      → bound ≤ (slice_index_or places i d).value

-- the symbol of a number
abbrev pub numbered : List (List ℕ × ℕ) → Option ℕ → Option (List ℕ × ℕ)
numbered symbols None = None
numbered symbols (Some n) = slice_get symbols n

-- names with a symbol more, if its name is new
abbrev pub with_new : List (List ℕ × ℕ) → List ℕ × ℕ → List (List ℕ × ℕ)
with_new names s = if is_some (lookup (bytes_eq s.0) names) then names else names ++ s ∷ []
