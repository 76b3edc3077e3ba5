use Rattle.std.specs.Prelude.{◌≡◌, ℕ, ◌-◌, ◌<◌, ◌≤◌, Bool, true, nat_lt, List, length, filter, find, map, reverse, slice_index, Option}
use Rattle.std.specs.List.{range_with_len}
use Rattle.m161_elf.specs.declared.header.ProgramHeader.{ProgramHeader}
use Rattle.m161_elf.specs.Header.{e_phnum, header, is_load}
use Rattle.m161_elf.specs.Image.{covers}

-- The table of the next free places, while segments are put into memory from the last to the first.

-- a place is taken
abbrev pub is_taken : List ℕ → ℕ → Bool
is_taken next at = nat_lt at (slice_index next at)

-- each entry of the table leads on and not past the end, and over places that are taken
pub record IsCover (next : List ℕ) : Type 0 where
  pub on : (i : ℕ) → i < length next → i ≤ slice_index next i
  pub within : (i : ℕ) → i < length next → slice_index next i < length next
  pub over : (i at : ℕ) → i < length next → i ≤ at → at < slice_index next i
      → is_taken next at ≡ true

-- the segments to load from program header i on, in the table's order
abbrev pub segments_from : List ℕ → ℕ → List ProgramHeader
segments_from file i =
    filter is_load (map (header file) (range_with_len i (e_phnum file - i)))

-- the last of some segments that has a byte at a physical address
abbrev pub last_at : List ProgramHeader → ℕ → Option ProgramHeader
last_at loaded at = find (covers at) (reverse loaded)
