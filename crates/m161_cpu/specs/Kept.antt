use Rattle.std.specs.Prelude.{◌≡◌, ℕ, ◌+◌, ◌*◌, ◌/◌, ◌%◌, ◌^◌, ◌<◌, true, List, length, slice_get, slice_index, Option, None, Some}
use Rattle.m161_tlb.specs.declared.row.Row.{Row}
use Rattle.m161_tlb.specs.Rows.{find_row}
use Rattle.m161_cpu.specs.declared.fault.Access.{Access}
use Rattle.m161_cpu.specs.Translation.{is_store}

-- Translations that a processor keeps for one kind of access, so that it needn't look for the row
-- again. They are no part of its value, and change nothing but time. The table is this project's own.

-- a place for each page number modulo 16: a tag, which is the page and the identifier as EntryHi has
-- them; and a change, which is added to an address of the page modulo 2^32
pub record Translations : Type 0 where
  pub tags : List ℕ
  pub changes : List ℕ

-- a row gives an access the physical address
abbrev pub GivesByRow : Access → ℕ → ℕ → Option Row → Type 0
GivesByRow access address at None = ⊥
GivesByRow access address at (Some row) =
    (row.v ≡ true) × (is_store access ≡ true → row.d ≡ true)
    × (at ≡ row.frame * 2 ^ 12 + address % 2 ^ 12)

-- the same by the row's number, if there is one
abbrev pub Gives : List Row → Access → ℕ → ℕ → Option ℕ → Type 0
Gives rows access address at None = ⊥
Gives rows access address at (Some i) = GivesByRow access address at (slice_get rows i)

-- place k, with this tag and change: if the tag fits a page and an identifier, then the page is in
-- kuseg and has this place, and the lowest row that matches it gives the access the changed address
abbrev pub IsKept : List Row → Access → ℕ → ℕ → ℕ → Type 0
IsKept rows access k tag change =
    (page id rest : ℕ) → id < 2 ^ 6 → rest < 4 → tag ≡ page * 2 ^ 12 + id * 2 ^ 6 + rest
    → (rest ≡ 0) × (page < 0x80000) × (page % 16 ≡ k)
    × ((address : ℕ) → address / 2 ^ 12 ≡ page
    → Gives rows access address ((address + change) % 2 ^ 32) (find_row rows page id))

unfoldable pub AreKept : List Row → Access → Translations → Type 0
AreKept rows access t =
    (length t.tags ≡ 16) × (length t.changes ≡ 16)
    × ((k : ℕ) → k < 16 → IsKept rows access k (slice_index t.tags k) (slice_index t.changes k))
