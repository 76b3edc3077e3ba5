use Rattle.std.specs.Prelude.{◌≡◌, ℕ, List, length, take}

-- the words that were there are still the first
abbrev pub Begins : List ℕ → List ℕ → Type 0
Begins old new = take (length old) new ≡ old
