use Rattle.std.specs.Prelude.{◌≡◌, ◌≢◌, ℕ, ◌+◌, ◌<◌, Bool, false, not, ◌==◌, ◌&&◌, List, get_or, map, Option}
use Rattle.std.specs.List.{position, range_with_len}
use Rattle.m161_tlb.specs.declared.row.Row.{Row}
use Rattle.m161_tlb.specs.Row.{matches, overlaps}

-- The TLB as a list of 64 rows. Kane, MIPS RISC Architecture, "Memory management"; the rows at the
-- start, and that the lowest matching row is used, are this project's own.

-- the lowest row that translates a page of an address space
unfoldable pub find_row : List Row → ℕ → ℕ → Option ℕ
find_row rows page id = position (matches page id) rows

-- a row of zeros, as which a list is read past its end
abbrev pub blank_row : Row
blank_row = record { page = 0; id = 0; frame = 0; n = false; d = false; v = false; g = false }

-- row j is another than row i, and overlaps this one
abbrev pub is_overlap : List Row → ℕ → Row → ℕ → Bool
is_overlap rows i row j = not (j == i) && overlaps row (get_or rows j blank_row)

-- the lowest row other than row i that overlaps this one
unfoldable pub find_overlap : List Row → ℕ → Row → Option ℕ
find_overlap rows i row = position (is_overlap rows i row) (range_with_len 0 64)

-- no two of the rows overlap
abbrev pub AreApart : List Row → Type 0
AreApart rows =
    (i j : ℕ) → i < 64 → j < 64 → i ≢ j
    → overlaps (get_or rows i blank_row) (get_or rows j blank_row) ≡ false

-- row i at a processor's start: page 0x80000 + i, all else zero
abbrev pub start_row : ℕ → Row
start_row i = record {
  page = 0x80000 + i;
  id = 0;
  frame = 0;
  n = false;
  d = false;
  v = false;
  g = false;
}

-- the rows at a processor's start
abbrev pub start_rows : List Row
start_rows = map start_row (range_with_len 0 64)
