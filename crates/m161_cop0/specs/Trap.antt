use Rattle.std.specs.Prelude.{◌≡◌, ℕ, ◌+◌, ◌-◌, ◌*◌, ◌/◌, ◌%◌, ◌^◌, Bool, ◌==◌, ◌&&◌, ◌||◌, if◌then◌else◌, ◌⊎◌}
use Rattle.m161_isa.specs.Bits.{bits_of, has_bit}
use Rattle.m161_cop0.specs.declared.exception.Exception.{Exception}
use Rattle.m161_cop0.specs.declared.exception.Exception.TheVariants as exception
use Rattle.m161_cop0.specs.declared.trap.Trap.{Trap}
use Rattle.m161_cop0.specs.Registers.{number_of_exception}
use Rattle.m161_cop0.specs.Control.{Control}

-- The entry of a trap and the return from it. Kane, MIPS RISC Architecture, "Exception processing".

-- the address of a failed translation or of an error of addressing
abbrev pub with_bad_address : ℕ → Control → Control
with_bad_address address c = record c { bad_vaddr = address }

-- with its page in EntryHi and in Context's BadVPN too
abbrev pub with_bad_page : ℕ → Control → Control
with_bad_page address c = record c {
  bad_vaddr = address;
  entry_hi = address / 2 ^ 12 * 2 ^ 12 + c.entry_hi % 2 ^ 12;
  context = c.context / 2 ^ 21 * 2 ^ 21 + bits_of address 12 19 * 2 ^ 2;
}

-- the registers after an exception's address is noted
abbrev pub with_address : Exception → ℕ → Control → Control
with_address exception.Interrupt address c = c
with_address exception.TlbModified address c = with_bad_page address c
with_address exception.TlbLoad address c = with_bad_page address c
with_address exception.TlbStore address c = with_bad_page address c
with_address exception.AddressErrorLoad address c = with_bad_address address c
with_address exception.AddressErrorStore address c = with_bad_address address c
with_address exception.BusErrorFetch address c = c
with_address exception.BusErrorData address c = c
with_address exception.SystemCall address c = c
with_address exception.Breakpoint address c = c
with_address exception.ReservedInstruction address c = c
with_address exception.CoprocessorUnusable address c = c
with_address exception.Overflow address c = c

-- two exceptions are the same
abbrev pub is_same_exception : Exception → Exception → Bool
is_same_exception e f = number_of_exception e == number_of_exception f

-- CE: the unit that wasn't usable, else zero
abbrev pub unit_of : Trap → ℕ
unit_of trap =
    if is_same_exception trap.code exception.CoprocessorUnusable then trap.unit % 2 ^ 2 else 0

-- a miss in kuseg; a fetch that misses is TlbLoad too
abbrev pub is_user_miss : Trap → Bool
is_user_miss trap =
    trap.user_miss
    && (is_same_exception trap.code exception.TlbLoad
    || is_same_exception trap.code exception.TlbStore)

-- Status: the current pair to the previous, the previous to the old; kernel mode, interrupts off
abbrev pub push_modes : ℕ → ℕ
push_modes status = status / 2 ^ 6 * 2 ^ 6 + status % 2 ^ 4 * 2 ^ 2

-- Status: the previous pair to the current one, the old to the previous; the old stays
abbrev pub pop_modes : ℕ → ℕ
pop_modes status = status / 2 ^ 4 * 2 ^ 4 + bits_of status 2 4

-- EPC: the instruction, or the branch before it if it is in a delay slot
abbrev pub epc_of : Trap → ℕ
epc_of trap = if trap.slot then (trap.pc + (2 ^ 32 - 4)) % 2 ^ 32 else trap.pc

-- the registers after the entry of a trap
unfoldable pub after_trap : Trap → Control → Control
after_trap trap c = with_address trap.code trap.address (record c {
  status = push_modes c.status;
  epc = epc_of trap;
  branch_delay = trap.slot;
  unit = unit_of trap;
  code = number_of_exception trap.code;
})

-- the next address: by BEV, a user miss apart from all others
unfoldable pub vector_of : Trap → Control → ℕ
vector_of trap c =
    if is_user_miss trap then (if has_bit c.status 22 then 0xbfc00100 else 0x80000000)
    else (if has_bit c.status 22 then 0xbfc00180 else 0x80000080)

-- the four next addresses
abbrev pub IsVector : ℕ → Type 0
IsVector address =
    (address ≡ 0x80000000) ⊎ (address ≡ 0x80000080)
    ⊎ (address ≡ 0xbfc00100) ⊎ (address ≡ 0xbfc00180)

-- `rfe`
abbrev pub after_rfe : Control → Control
after_rfe c = record c { status = pop_modes c.status }
