-- Places of code.
use Rattle.std.proofs.Common.{◌≡◌, ℕ, ◌+◌, ◌*◌, ◌<◌, true, arith}
use Rattle.std.proofs.lemmas.Bool.Decides.{nat_tests}
use Rattle.m161_elf.specs.Image.{is_in_ram}

-- the i-th of n words in RAM is there
pub in_ram_at : (ram address n i : ℕ) → is_in_ram ram address (4 * n) ≡ true → i < n → is_in_ram ram (address + 4 * i) 4 ≡ true
in_ram_at ram address n i inside lt = grind (arith, nat_tests)
