use Rattle.std.specs.Prelude.{ℕ, ◌-◌, ◌*◌, ◌/◌, ◌%◌, ◌^◌, ℤ, pos, ◌*ℤ◌, Bool, not, ◌==◌, int_lt, int_div, int_rem, if◌then◌else◌}
use Rattle.std.specs.Int.{int_div_euclid}
use Rattle.m161_isa.specs.declared.instr.ShiftOp.{ShiftOp}
use Rattle.m161_isa.specs.declared.instr.ShiftOp.TheVariants as shift
use Rattle.m161_isa.specs.declared.instr.ZeroTest.{ZeroTest}
use Rattle.m161_isa.specs.declared.instr.ZeroTest.TheVariants as zero
use Rattle.m161_alu.specs.declared.arithmetic.Signedness.{Signedness}
use Rattle.m161_alu.specs.declared.arithmetic.Signedness.TheVariants.{Signed, Unsigned}
use Rattle.m161_alu.specs.declared.arithmetic.HiLoPair.{HiLoPair}
use Rattle.m161_alu.specs.Word.{signed, modulo}

-- The results of instructions. Kane, MIPS RISC Architecture, instruction descriptions.

-- the whole number that a word is read as
abbrev pub integer_of : Signedness → ℕ → ℤ
integer_of Signed word = signed word
integer_of Unsigned word = pos word

-- a word shifted: times a power of two modulo 2^32, or divided by it, rounded down
abbrev pub shifted_word : ShiftOp → ℕ → ℕ → ℕ
shifted_word shift.Left word amount = word * 2 ^ amount % 2 ^ 32
shifted_word shift.Right word amount = word / 2 ^ amount
shifted_word shift.RightArithmetic word amount =
    modulo (2 ^ 32) (int_div_euclid (signed word) (pos (2 ^ amount)))

-- the two words of a number below 2^64
abbrev pub halves : ℕ → HiLoPair
halves n = record { hi = n / 2 ^ 32; lo = n % 2 ^ 32 }

-- the product
abbrev pub product : Signedness → ℕ → ℕ → HiLoPair
product s a b = halves (modulo (2 ^ 64) (integer_of s a *ℤ integer_of s b))

-- the quotient, toward zero, and the remainder, with the dividend's sign. The result of a division
-- by zero is this project's own rule
abbrev pub quotient : Signedness → ℕ → ℕ → HiLoPair
quotient s a b =
    if b == 0 then record { hi = a; lo = 2 ^ 32 - 1 }
    else record {
      hi = modulo (2 ^ 32) (int_rem (integer_of s a) (integer_of s b));
      lo = modulo (2 ^ 32) (int_div (integer_of s a) (integer_of s b));
    }

-- one word is less than another
abbrev pub is_less : Signedness → ℕ → ℕ → Bool
is_less s a b = int_lt (integer_of s a) (integer_of s b)

-- a branch on a test against zero is taken
abbrev pub is_taken : ZeroTest → ℕ → Bool
is_taken zero.Less word = int_lt (signed word) (pos 0)
is_taken zero.GreaterOrEqual word = not (int_lt (signed word) (pos 0))
is_taken zero.LessAndLink word = int_lt (signed word) (pos 0)
is_taken zero.GreaterOrEqualAndLink word = not (int_lt (signed word) (pos 0))
is_taken zero.LessOrEqual word = not (int_lt (pos 0) (signed word))
is_taken zero.Greater word = int_lt (pos 0) (signed word)
