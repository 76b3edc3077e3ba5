use Rattle.std.specs.Prelude.{ℕ, ◌<◌, ◌≤◌, List, slice_index}

-- Places of the order by priorities.

-- the numbers from place `used` on are at least this one
abbrev pub AreFrom : ℕ → ℕ → List ℕ → Type 0
AreFrom number used numbers = (k : ℕ) → used ≤ k → k < 32 → number ≤ slice_index numbers k
