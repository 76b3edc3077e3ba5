use Rattle.std.specs.Prelude.{◌≡◌, ◌⊎◌, ℕ, ◌+◌, ◌*◌, ◌^◌, ◌≤◌, Bool, false, ◌||◌, nat_lt, List, Option, None, Some}
use Rattle.m161_asm.specs.declared.place.Position.{Position}
use Rattle.m161_asm.specs.helpers.Ground.{IsOrdered, HasFilled}
use Rattle.m161_asm.specs.Lines.{Label, SourceLine}
use Rattle.m161_asm.specs.Text.{address_below, address_from, count_words, has_words, has_words_from, segments_in, new_segments, is_filled, overlap, label_address}

-- What the passes keep of the lines above.

-- a position within its limits
pub record IsPosition (p : Position) : Type 0 where
  pub address : p.address ≤ 2 ^ 32
  pub words : p.words ≤ 4194304
  pub segments : p.segments ≤ 1024
  pub ordered : IsOrdered p.ground p.address

-- the position is that of the line after these
pub record IsBehind (p : Position) (above : List SourceLine) : Type 0 where
  pub position : IsPosition p
  pub address : p.address ≡ address_below above
  pub words : p.words ≡ count_words above
  pub segments : p.segments ≡ segments_in above
  pub has_words : p.has_words ≡ has_words above
  pub fills : HasFilled p.ground p.address (is_filled above)

-- `size` words have room at the position
pub record HasRoom (p : Position) (size : ℕ) : Type 0 where
  pub address : p.address + 4 * size ≤ 2 ^ 32
  pub words : p.words + size ≤ 4194304
  pub segments : p.segments + new_segments size p.has_words ≤ 1024
  pub free : (size ≡ 0) ⊎ (p.address + 4 * size ≤ p.ground.limit)

-- the position after `size` words, or at the address that a statement sets
pub record Advances (old new : Position) (origin : Option ℕ) (size : ℕ) : Type 0 where
  pub position : IsPosition new
  pub address : new.address ≡ address_from origin (old.address + 4 * size)
  pub words : new.words ≡ size + old.words
  pub segments : new.segments ≡ old.segments + new_segments size old.has_words
  pub has_words : new.has_words ≡ has_words_from origin (nat_lt 0 size || old.has_words)
  pub fills : (filled : ℕ → ℕ → Bool) → HasFilled old.ground old.address filled
      → HasFilled new.ground new.address (λ a n. overlap old.address size a n || filled a n)

-- the position at another address
pub record Moves (old new : Position) (n : ℕ) : Type 0 where
  pub position : IsPosition new
  pub address : new.address ≡ n
  pub words : new.words ≡ old.words
  pub segments : new.segments ≡ old.segments
  pub has_words : new.has_words ≡ false
  pub fills : (filled : ℕ → ℕ → Bool) → HasFilled old.ground old.address filled
      → HasFilled new.ground new.address filled

-- the label isn't among the symbols
abbrev pub IsNew : List (List ℕ × ℕ) → Label → Type 0
IsNew symbols None = Unit {0}
IsNew symbols (Some x) = label_address symbols x.0 ≡ None
