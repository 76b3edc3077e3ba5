use Rattle.std.specs.Prelude.{ℕ, Bool, true, false, if◌then◌else◌, List, [], ◌∷◌, ◌++◌}
use Rattle.s161_debug.specs.Blanks.{is_blank}

-- A line that is read byte by byte: what is kept of it.

-- a byte of a word behind what is kept: with a space before it where a blank stood there
abbrev pub with_byte : List ℕ → Bool → ℕ → List ℕ
with_byte [] apart byte = byte ∷ []
with_byte (b ∷ bs) true byte = (b ∷ bs) ++ 32 ∷ byte ∷ []
with_byte (b ∷ bs) false byte = (b ∷ bs) ++ byte ∷ []

-- what is kept once these bytes are read, too
abbrev pub kept_with : List ℕ → Bool → List ℕ → List ℕ
kept_with kept apart [] = kept
kept_with kept apart (b ∷ bs) =
    if is_blank b then kept_with kept true bs else kept_with (with_byte kept apart b) false bs
