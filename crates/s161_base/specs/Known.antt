use Rattle.std.specs.Prelude.{◌≡◌, ℕ, List, Option, IfSome, IsUtf8}

-- What is known of the bytes that a file or a reader has.

-- some bytes have this property; if the bytes are known, the known ones have it
abbrev pub OfKnown : Option (List ℕ) → (List ℕ → Type 0) → Type 0
OfKnown known IsSo = (bytes : List ℕ) × IfSome known (λ b. bytes ≡ b) × IsSo bytes

-- the bytes are UTF-8
abbrev pub IsText : List ℕ → Type 0
IsText bytes = ∥ IsUtf8 bytes ∥₁

-- a text has this property, as far as its bytes are known
abbrev pub OfText : Option (List ℕ) → (List ℕ → Type 0) → Type 0
OfText known IsSo = OfKnown known (λ text. IsText text × IsSo text)
