use Rattle.std.specs.Prelude.{ℕ, List, Option}
use Rattle.m161_text.specs.Parts.{◌␣◌, Reads}

-- two parts with a space between are read, each by itself
abbrev pub ReadsBoth : {X Y : Type 0} (ValidX : X → Type 0) (ValidY : Y → Type 0)
    (f : X → List ℕ) (g : Y → List ℕ) → List ℕ → Option (X × Y) → Type 0
ReadsBoth {X = X} {Y = Y} ValidX ValidY f g text result =
    Reads (λ (t : X × Y). ValidX t.0 × ValidY t.1) (λ (t : X × Y). f t.0 ␣ g t.1) text result
