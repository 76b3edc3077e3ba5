use Rattle.std.specs.Prelude.{ℕ, List, [], ◌∷◌, take, Option, None, Some}
use Rattle.std.specs.Io.KnownBytes.{Appends, Consumes, IsAtEnd}

-- What one call reads of an input, or writes to an output.

-- known bytes grow by the first of these
abbrev pub AppendsSome : Option (List ℕ) → Option (List ℕ) → List ℕ → Type 0
AppendsSome old new bytes = (n : ℕ) × Appends old new (take n bytes)

-- a byte was read, or the end
abbrev pub ReadsByte : Option (List ℕ) → Option ℕ → Option (List ℕ) → Type 0
ReadsByte left None l = IsAtEnd l × Consumes left l []
ReadsByte left (Some byte) l = Consumes left l (byte ∷ [])
