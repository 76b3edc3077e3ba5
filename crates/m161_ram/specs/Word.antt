use Rattle.std.specs.Prelude.{ℕ, ◌+◌, ◌*◌, ◌/◌, ◌%◌, ◌^◌, List, slice_index, slice_set}

-- Half-words and words in memory, which is the list of its bytes from physical address 0 on; those
-- of an ELF file are read by the same definitions. Kane, MIPS RISC Architecture, "Data formats":
-- big-endian.

-- the half-word whose first byte is at an address
abbrev pub half_at : List ℕ → ℕ → ℕ
half_at memory at = slice_index memory at * 2 ^ 8 + slice_index memory (at + 1)

-- memory with a half-word there
abbrev pub with_half : List ℕ → ℕ → ℕ → List ℕ
with_half memory at half = slice_set (slice_set memory at (half / 2 ^ 8)) (at + 1) (half % 2 ^ 8)

-- the word whose first byte is at an address
abbrev pub word_at : List ℕ → ℕ → ℕ
word_at memory at =
    slice_index memory at * 2 ^ 24
    + slice_index memory (at + 1) * 2 ^ 16
    + slice_index memory (at + 2) * 2 ^ 8
    + slice_index memory (at + 3)

-- memory with a word there
abbrev pub with_word : List ℕ → ℕ → ℕ → List ℕ
with_word memory at word =
    slice_set
    (slice_set
    (slice_set (slice_set memory at (word / 2 ^ 24)) (at + 1) (word / 2 ^ 16 % 2 ^ 8))
    (at + 2) (word / 2 ^ 8 % 2 ^ 8))
    (at + 3) (word % 2 ^ 8)
