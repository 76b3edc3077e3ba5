use Rattle.std.specs.Prelude.{ℕ, ◌+◌, ◌-◌, take, drop, ◌++◌}
use Rattle.std.specs.Int.{to_be_bytes, from_be_bytes, w32}

-- Merges for the accesses that needn't be aligned. Kane, MIPS RISC Architecture, `lwl`, `lwr`,
-- `swl`, `swr`, big-endian.

-- `lwl` at a place of the word: the memory's bytes from there on, then the register's last ones
abbrev pub merged_left : ℕ → ℕ → ℕ → ℕ
merged_left memory register place =
    from_be_bytes w32
    (drop place (to_be_bytes w32 memory) ++ drop (4 - place) (to_be_bytes w32 register))

-- `lwr` at a place of the word: the register's first bytes, then the memory's up to there
abbrev pub merged_right : ℕ → ℕ → ℕ → ℕ
merged_right memory register place =
    from_be_bytes w32
    (take (3 - place) (to_be_bytes w32 register) ++ take (place + 1) (to_be_bytes w32 memory))

-- `swl` at a place of the word: the memory's bytes before it, then the register's first ones
abbrev pub stored_left : ℕ → ℕ → ℕ → ℕ
stored_left memory register place =
    from_be_bytes w32
    (take place (to_be_bytes w32 memory) ++ take (4 - place) (to_be_bytes w32 register))

-- `swr` at a place of the word: the register's last bytes up to there, then the memory's
abbrev pub stored_right : ℕ → ℕ → ℕ → ℕ
stored_right memory register place =
    from_be_bytes w32
    (drop (3 - place) (to_be_bytes w32 register) ++ drop (place + 1) (to_be_bytes w32 memory))
