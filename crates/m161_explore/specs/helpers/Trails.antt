use Rattle.std.specs.Prelude.{◌≡◌, ℕ, ◌<◌, List, [], ◌∷◌, length}
use Rattle.m161_explore.specs.declared.graph.Node.{Node}
use Rattle.m161_explore.specs.Search.{event_at, parent_at}

-- The way back from a state.

-- the events from the start to the state with number j, the last one first
abbrev pub IsTrail : List Node → ℕ → List ℕ → Type 0
IsTrail nodes j [] = j ≡ 0
IsTrail nodes j (e ∷ es) =
    (0 < j) × (j < length nodes) × (event_at nodes j ≡ e) × IsTrail nodes (parent_at nodes j) es

-- each state but the first comes from an earlier one
abbrev pub AreEarlier : List Node → Type 0
AreEarlier nodes = (j : ℕ) → 0 < j → j < length nodes → parent_at nodes j < j
