use Rattle.std.specs.Prelude.{◌≡◌, ℕ, ◌+◌, ◌-◌, ◌*◌, ◌/◌, ◌%◌, ◌^◌, replicate, slice_index, slice_set}
use Rattle.m161_cpu.specs.Kept.{Translations}

-- The parts of a table of translations.

-- the tag of a place that keeps nothing; the lower six bits of each other tag are zero
abbrev pub no_tag : ℕ
no_tag = 2 ^ 32 - 1

abbrev pub no_translations : Translations
no_translations = record { tags = replicate 16 no_tag; changes = replicate 16 0 }

-- the place of an address, and its tag
abbrev pub place_of : ℕ → ℕ
place_of address = address / 2 ^ 12 % 16

abbrev pub tag_of : ℕ → ℕ → ℕ
tag_of address id = address / 2 ^ 12 * 2 ^ 12 + id * 2 ^ 6

-- nothing is kept at a page's place
abbrev pub without_page : ℕ → Translations → Translations
without_page page t = record t { tags = slice_set t.tags (page % 16) no_tag }

-- the place of an address has its tag, so the address is aligned to the width, and this is the
-- physical one
abbrev pub IsFound : Translations → ℕ → ℕ → ℕ → ℕ → Type 0
IsFound t width address id at =
    (slice_index t.tags (place_of address) ≡ tag_of address id + address % width)
    × (at ≡ (address + slice_index t.changes (place_of address)) % 2 ^ 32)
