use Rattle.std.specs.Prelude.{◌≡◌, ◌≢◌, ◌⊎◌, ℕ, zero, suc, ◌+◌, ◌<◌, ◌^◌, ◌/◌, ◌%◌, List, [], ◌∷◌, ◌++◌, if◌then◌else◌, nat_lt, Option, Some, IfSome, MatchOption, length, slice_index}
use Rattle.std.proofs.Common.{Bor}

-- Parts of a line: how they are written, and what reading one means.

-- two parts of a line, with one space between
infixr 10 ◌␣◌
abbrev pub ◌␣◌ : List ℕ → List ℕ → List ℕ
a ␣ b = a ++ 32 ∷ b

-- a number of 32 bits
abbrev pub IsWord : ℕ → Type 0
IsWord n = n < 2 ^ 32

-- a number of 8 bits
abbrev pub IsByte : ℕ → Type 0
IsByte n = n < 256

-- the number of a page, of 20 bits
abbrev pub IsPage : ℕ → Type 0
IsPage n = n < 2 ^ 20

-- a lower case hexadecimal digit
abbrev pub hex_digit : ℕ → ℕ
hex_digit n = if nat_lt n 10 then 48 + n else 87 + n

-- a number in k hexadecimal digits
abbrev pub hex_text : ℕ → ℕ → List ℕ
hex_text zero n = []
hex_text (suc k) n = hex_text k (n / 16) ++ hex_digit (n % 16) ∷ []

-- a word of 32 bits
abbrev pub word_text : ℕ → List ℕ
word_text word = hex_text 8 word

-- a text is read: the result is the valid value that has this text, or None if there is no such
-- value
pub record Reads
    {X T : Type 0} (Valid : X → Type 0) (text_of : X → T) (text : T) (result : Option X)
    : Type 0 where
  -- the result is valid and has this text
  pub found : IfSome result (λ x. Valid x × (text ≡ text_of x))
  -- every valid value that has this text is the result
  pub only : (x : X) → Valid x → text ≡ text_of x → result ≡ Some x

-- byte c is nowhere in a text
abbrev pub Lacks : ℕ → List ℕ → Type 0
Lacks c text = (i : ℕ) → i < length text → slice_index text i ≢ c

-- the parts of a text before and after its first c; None if it has no c
abbrev pub Cuts : ℕ → List ℕ → Option (Bor (List ℕ) × Bor (List ℕ)) → Type 0
Cuts c text result =
    MatchOption result (Lacks c text) (λ x. Lacks c x.0.now × (text ≡ x.0.now ++ c ∷ x.1.now))

-- a text's first line, without its end, and the rest, which is empty if the line has no end
abbrev pub IsFirstLine : List ℕ → List ℕ → List ℕ → Type 0
IsFirstLine text line rest =
    Lacks 10 line × ((text ≡ line ++ 10 ∷ rest) ⊎ ((text ≡ line) × (rest ≡ [])))
