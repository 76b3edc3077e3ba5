use Rattle.std.specs.Prelude.{ℕ, List, [], ◌∷◌}

-- the last number, or this one where there is none
abbrev pub last_from : ℕ → List ℕ → ℕ
last_from least [] = least
last_from least (n ∷ ns) = last_from n ns
