use Rattle.std.specs.Prelude.{◌≡◌, ℕ, ◌+◌, ◌%◌, ◌≤◌, nat_lt, ◌==◌, if◌then◌else◌, All, List, [], ◌∷◌, length}
use Rattle.std.specs.List.{Contains}
use Rattle.m161_ram.specs.Word.{word_at}

-- The addresses of the words of memory that may differ from boot's.

-- addresses of words in ascending order, none below this one
abbrev pub Rise : ℕ → List ℕ → Type 0
Rise from [] = Unit {0}
Rise from (at ∷ rest) = (from ≤ at) × (at % 4 ≡ 0) × Rise (at + 4) rest

-- each word that differs from boot's is at one of these addresses
pub record Cover (boot memory addresses : List ℕ) : Type 0 where
  pub rise : Rise 0 addresses
  pub within : All (λ at. at + 4 ≤ length memory) addresses
  pub others : (at : ℕ) → at % 4 ≡ 0 → at + 4 ≤ length memory → (Contains addresses at → ⊥)
      → word_at memory at ≡ word_at boot at

-- ascending addresses with one more, if it isn't there
abbrev pub with_address : ℕ → List ℕ → List ℕ
with_address at [] = at ∷ []
with_address at (p ∷ ps) =
    if nat_lt p at then p ∷ with_address at ps else if p == at then p ∷ ps else at ∷ p ∷ ps

-- the address before each word
abbrev pub addresses_in : List ℕ → List ℕ
addresses_in [] = []
addresses_in (at ∷ []) = []
addresses_in (at ∷ word ∷ rest) = at ∷ addresses_in rest
