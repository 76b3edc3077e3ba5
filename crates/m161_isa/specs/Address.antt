use Rattle.std.specs.Prelude.{ℕ, ◌+◌, ◌-◌, ◌*◌, ◌/◌, ◌%◌, ◌^◌, nat_lt, if◌then◌else◌, Option, None, Some}

-- Addresses that are mapped to physical ones without the TLB. Kane, MIPS RISC Architecture,
-- "Memory management".

-- kseg0 and kseg1, two views of the first 2^29 physical bytes: the address minus the segment's base
abbrev pub unmapped : ℕ → Option ℕ
unmapped address =
    if nat_lt address 0x80000000 then None
    else if nat_lt address 0xa0000000 then Some (address - 0x80000000)
    else if nat_lt address 0xc0000000 then Some (address - 0xa0000000)
    else None

-- Where branches and jumps lead. Kane, MIPS RISC Architecture, instruction descriptions.

-- the target of a branch at an address: the address after it plus its signed field in words
abbrev pub branch_target : ℕ → ℕ → ℕ
branch_target at n = (at + 4 + 4 * n + (if nat_lt n 0x8000 then 0 else 0xfffc0000)) % 2 ^ 32

-- the target of a jump at an address: the upper four bits are those of the address after it
abbrev pub jump_target : ℕ → ℕ → ℕ
jump_target at n = (at + 4) % 2 ^ 32 / 2 ^ 28 * 2 ^ 28 + 4 * n
