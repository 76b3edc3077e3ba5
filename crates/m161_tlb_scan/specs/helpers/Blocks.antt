use Rattle.std.specs.Prelude.{◌≡◌, ℕ, ◌<◌, ◌≤◌, List, get_or}
use Rattle.m161_tlb.specs.declared.row.Row.{Row}
use Rattle.m161_tlb.specs.Rows.{blank_row}

-- no row of these, the first of them and the one past the last, is for a page
abbrev pub LacksPage : List Row → ℕ → ℕ → ℕ → Type 0
LacksPage rows page from to =
    (k : ℕ) → from ≤ k → k < to → (get_or rows k blank_row).page ≡ page → ⊥
