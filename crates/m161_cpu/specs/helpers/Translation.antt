use Rattle.std.specs.Prelude.{◌≡◌, ◌⊎◌, ℕ}

-- the width of an access in bytes
abbrev pub IsWidth : ℕ → Type 0
IsWidth width = (width ≡ 1) ⊎ (width ≡ 2) ⊎ (width ≡ 4)
