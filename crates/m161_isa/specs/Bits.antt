use Rattle.std.specs.Prelude.{ℕ, ◌/◌, ◌%◌, ◌^◌, Bool, ◌==◌}

-- The bits of a word.

-- the field of a word from bit `at` on, `width` bits wide
abbrev pub bits_of : ℕ → ℕ → ℕ → ℕ
bits_of word at width = word / 2 ^ at % 2 ^ width

-- bit n of a word is set
abbrev pub has_bit : ℕ → ℕ → Bool
has_bit word n = bits_of word n 1 == 1
