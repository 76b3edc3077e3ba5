use Rattle.std.proofs.Common.{◌≡◌, ◌≢◌, ap, ℕ, ◌*◌, ◌%◌, ◌^◌, ◌<◌, true, false, bit_or}
use Rattle.std.specs.Prelude.{◌==◌}
use Rattle.std.specs.Int.{w32}
use Rattle.std.proofs.lemmas.Nat.Bits.{bit_at-zero, bit_at_set_other, bit_at_set_same}
use Rattle.m161_isa.specs.Bits.{has_bit}

-- The bits of a mask.

pub no_bit : (p : ℕ) → has_bit 0 p ≡ false
no_bit p = ap (λ n. n == 1) (bit_at-zero p)

pub bit_set : (word p : ℕ) → p < 32 → has_bit (bit_or word (1 * 2 ^ p % 4294967296)) p ≡ true
bit_set word p below = ap (λ n. n == 1) (bit_at_set_same w32 word p below)

pub bit_stays : (word p q : ℕ) → p < 32 → q < 32 → q ≢ p → has_bit (bit_or word (1 * 2 ^ p % 4294967296)) q ≡ has_bit word q
bit_stays word p q below within other = ap (λ n. n == 1) (bit_at_set_other w32 word p below q other)
