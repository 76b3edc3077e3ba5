use Rattle.std.specs.Prelude.{ℕ, ◌-◌, ◌%◌, ◌^◌, ℤ, pos, negsuc, nat_lt, if◌then◌else◌, Option, None, Some}
use Rattle.std.specs.Int.{cast_signed, cast_unsigned, w8, w16, w32}

-- Words as whole numbers. Kane, MIPS RISC Architecture, "Data formats".

-- the signed value of a word: from 2^31 on it is 2^32 less
abbrev pub signed : ℕ → ℤ
signed word = cast_signed w32 word

-- the word of a signed value, if it is a signed word
abbrev pub word_of_signed : ℤ → Option ℕ
word_of_signed (pos n) = if nat_lt n (2 ^ 31) then Some n else None
word_of_signed (negsuc n) = if nat_lt n (2 ^ 31) then Some (2 ^ 32 - 1 - n) else None

-- a whole number modulo n
abbrev pub modulo : ℕ → ℤ → ℕ
modulo n (pos a) = a % n
modulo n (negsuc a) = n - 1 - a % n

-- a byte and a half-word in two's complement, as words
abbrev pub sign_extended_byte : ℕ → ℕ
sign_extended_byte byte = cast_unsigned w32 (cast_signed w8 byte)

abbrev pub sign_extended_half : ℕ → ℕ
sign_extended_half half = cast_unsigned w32 (cast_signed w16 half)
