use Rattle.std.specs.Prelude.{ℕ, ◌-◌, ◌/◌, ◌%◌, Bool, nat_lt, nat_le, ◌==◌, ◌&&◌, if◌then◌else◌, List, [], ◌∷◌, Option, None, Some}
use Rattle.m161_bus.specs.declared.console.ConsoleRegister.TheVariants.{Char, WriteIrq, ReadIrq}
use Rattle.m161_bus.specs.declared.register.Register.{Register}
use Rattle.m161_bus.specs.declared.register.Register.TheVariants.{Constant, Console, RamSize, Irqs, Power, Irqe, Cpus, Cpue, SelfBit, Cirqe, Cipi, Cram}

-- The slots and their registers. All places, offsets and identities are this project's own; the
-- parts are those of the System/161 manual.

-- a line of a table: an offset, and the register there
pub record RegisterLine : Type 0 where
  pub offset : ℕ
  pub register : Register

abbrev pub at : ℕ → Register → RegisterLine
at offset register = record { offset = offset; register = register }

-- the register that a table has at an offset; a word that isn't in the table reads 0
abbrev pub in_table : ℕ → List RegisterLine → Register
in_table offset [] = Constant 0
in_table offset (l ∷ ls) = if offset == l.offset then l.register else in_table offset ls

-- slot 0
abbrev pub console_table : List RegisterLine
console_table = at 0x0 (Console Char) ∷ at 0x4 (Console WriteIrq) ∷ at 0x8 (Console ReadIrq) ∷ []

-- a device's identity: vendor, device, revision
abbrev pub console_configuration : List RegisterLine
console_configuration = at 0x0 (Constant 1) ∷ at 0x4 (Constant 4) ∷ at 0x8 (Constant 1) ∷ []

-- the controller's own configuration, with its registers
abbrev pub controller_configuration : List RegisterLine
controller_configuration =
    at 0x0 (Constant 1) ∷ at 0x4 (Constant 10) ∷ at 0x8 (Constant 1)
    ∷ at 0x200 RamSize
    ∷ at 0x204 Irqs
    ∷ at 0x208 Power
    ∷ at 0x20c Irqe
    ∷ at 0x210 Cpus
    ∷ at 0x214 Cpue
    ∷ at 0x218 SelfBit
    ∷ []

-- a processor's registers; its CRAM is the 64 words from 0x300 on
abbrev pub place_table : ℕ → List RegisterLine
place_table p = at 0x0 (Cirqe p) ∷ at 0x4 (Cipi p) ∷ []

abbrev pub place_register : ℕ → ℕ → Register
place_register p offset =
    if nat_le 0x300 offset then Cram p ((offset - 0x300) / 4) else in_table offset (place_table p)

-- the configuration of a slot
abbrev pub configuration_register : ℕ → ℕ → Register
configuration_register slot offset =
    if slot == 0 then in_table offset console_configuration
    else if slot == 31 then in_table offset controller_configuration
    else Constant 0

-- slot 31 has 64 parts of 0x400 bytes: each slot's configuration, then a place for each processor
abbrev pub controller_part : ℕ → ℕ → ℕ → Register
controller_part processors part offset =
    if nat_lt part 32 then configuration_register part offset
    else if nat_lt (part - 32) processors then place_register (part - 32) offset
    else Constant 0

abbrev pub controller_register : ℕ → ℕ → Register
controller_register processors offset = controller_part processors (offset / 0x400) (offset % 0x400)

abbrev pub register_in : ℕ → ℕ → ℕ → Register
register_in processors slot offset =
    if slot == 0 then in_table offset console_table
    else if slot == 31 then controller_register processors offset
    else Constant 0

-- an aligned word of the 32 slots of 0x10000 bytes from 1fe00000 on
abbrev pub is_word_of_slots : ℕ → Bool
is_word_of_slots address =
    nat_le 0x1fe00000 address && nat_lt address 0x20000000 && (address % 4 == 0)

-- the register at a physical address, on a board with this number of processors
unfoldable pub register_of : ℕ → ℕ → Option Register
register_of processors address =
    let place = address - 0x1fe00000 in
    if is_word_of_slots address
    then Some (register_in processors (place / 0x10000) (place % 0x10000))
    else None
