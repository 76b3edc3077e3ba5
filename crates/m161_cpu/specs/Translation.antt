use Rattle.std.specs.Prelude.{ℕ, ◌+◌, ◌*◌, ◌/◌, ◌%◌, ◌^◌, Bool, true, false, not, nat_lt, nat_le, ◌==◌, ◌&&◌, ◌||◌, if◌then◌else◌, List, slice_get, length, Option, None, Some, Result, Ok, Err}
use Rattle.m161_isa.specs.Address.{unmapped}
use Rattle.m161_ram.specs.Word.{word_at}
use Rattle.m161_tlb.specs.declared.row.Row.{Row}
use Rattle.m161_tlb.specs.Rows.{find_row}
use Rattle.m161_cop0.specs.Control.{identifier_of, is_user}
use Rattle.m161_bus.specs.declared.board.BusFault.{BusFault}
use Rattle.m161_bus.specs.Board.{BoardState, board_read}
use Rattle.m161_cpu.specs.declared.fault.Access.{Access}
use Rattle.m161_cpu.specs.declared.fault.Access.TheVariants.{Fetch, Load, Store}
use Rattle.m161_cpu.specs.declared.fault.FaultKind.TheVariants as kind
use Rattle.m161_cpu.specs.declared.translation.Physical.{Physical}
use Rattle.m161_cpu.specs.Processor.{Processor}
use Rattle.m161_cpu.specs.declared.fault.StepFault.{StepFault}
use Rattle.m161_cpu.specs.Fault.{fault, fault_at}
use Rattle.m161_cpu.specs.Scene.{result_map, and_then}

-- Translation of addresses to physical ones, and accesses to RAM and the slots. Kane, MIPS RISC
-- Architecture, "Memory management".

abbrev pub is_store : Access → Bool
is_store Fetch = false
is_store Load = false
is_store Store = true

-- a misaligned address, or a kernel address in user mode
abbrev pub address_error : Access → ℕ → StepFault
address_error access address =
    fault_at (if is_store access then kind.AddressErrorStore else kind.AddressErrorLoad) address

-- the row that matches isn't valid
abbrev pub invalid : Access → ℕ → StepFault
invalid access address = fault_at (if is_store access then kind.TlbStore else kind.TlbLoad) address

-- no row matches: an address in kuseg has a vector of its own
abbrev pub miss : Access → ℕ → StepFault
miss access address =
    if nat_lt address 0x80000000
    then fault_at (if is_store access then kind.UserMissStore else kind.UserMissLoad) address
    else invalid access address

-- a physical address, and the number of the row that gave it, if the address is mapped
abbrev pub physical : ℕ → Option ℕ → Physical
physical at row = record { at = at; row = row }

-- what a matching row gives
abbrev pub through : Access → ℕ → ℕ → Row → Result Physical StepFault
through access address i row =
    if not row.v then Err (invalid access address)
    else if is_store access && not row.d then Err (fault_at kind.TlbModified address)
    else Ok (physical (row.frame * 2 ^ 12 + address % 2 ^ 12) (Some i))

-- the same by the row's place in the TLB; a row's number is below 64, so the row exists
abbrev pub through_row : Access → ℕ → ℕ → Option Row → Result Physical StepFault
through_row access address i None = Err (miss access address)
through_row access address i (Some row) = through access address i row

abbrev pub by_row : Access → ℕ → List Row → Option ℕ → Result Physical StepFault
by_row access address rows None = Err (miss access address)
by_row access address rows (Some i) = through_row access address i (slice_get rows i)

-- the lowest row that matches the address's page and EntryHi's identifier
abbrev pub by_page : Access → ℕ → Processor → Result Physical StepFault
by_page access address p =
    by_row access address p.rows (find_row p.rows (address / 2 ^ 12) (identifier_of p.control))

-- kseg0 and kseg1 directly; kuseg and kseg2 by their rows
abbrev pub by_segment : Access → ℕ → Processor → Option ℕ → Result Physical StepFault
by_segment access address p (Some at) = Ok (physical at None)
by_segment access address p None = by_page access address p

-- an address that isn't aligned to the access's width, or a kernel address in user mode
unfoldable pub is_misaddressed : ℕ → ℕ → Processor → Bool
is_misaddressed width address p =
    not (address % width == 0) || (is_user p.control && nat_le 0x80000000 address)

-- the physical address of an access that has to be aligned to its width
abbrev pub translate : Access → ℕ → ℕ → Processor → Result Physical StepFault
translate access width address p =
    if is_misaddressed width address p then Err (address_error access address)
    else by_segment access address p (unmapped address)

-- the same without the row
unfoldable pub physical_at : Access → ℕ → ℕ → Processor → Result ℕ StepFault
physical_at access width address p =
    result_map (λ (to : Physical). to.at) (translate access width address p)

-- nothing on the bus has this address; or it is in the slots, and the access isn't that of an aligned
-- word
abbrev pub bus_error : Access → StepFault
bus_error Fetch = fault kind.BusErrorFetch
bus_error Load = fault kind.BusErrorData
bus_error Store = fault kind.BusErrorData

-- a physical address, if the bytes of this width from it on are in RAM of `size` bytes
abbrev pub in_ram : Access → ℕ → ℕ → ℕ → Result ℕ StepFault
in_ram access width size at = if nat_le (at + width) size then Ok at else Err (bus_error access)

-- the place in RAM of an access
abbrev pub reach : Access → ℕ → ℕ → ℕ → Processor → Result ℕ StepFault
reach access width address size p =
    and_then (physical_at access width address p) (in_ram access width size)

-- the place in RAM of the word that contains an address, which needn't be aligned
abbrev pub reach_word_of : Access → ℕ → ℕ → Processor → Result ℕ StepFault
reach_word_of access address size p =
    and_then (physical_at access 1 address p) (λ at. in_ram access 4 size (at / 4 * 4))

-- a word of RAM or of the slots, as processor c reads it, and the board after it was read
abbrev pub or_bus_error : {V : Type 0} → Access → Result V BusFault → Result V StepFault
or_bus_error access (Ok value) = Ok value
or_bus_error access (Err e) = Err (bus_error access)

abbrev pub read_physical_word : ℕ → List ℕ → BoardState → ℕ → Result (ℕ × BoardState) StepFault
read_physical_word c memory board at =
    if nat_le (at + 4) (length memory) then Ok (word_at memory at, board)
    else or_bus_error Load (board_read c at board)

abbrev pub read_word : ℕ → Processor → ℕ → List ℕ → BoardState → Result (ℕ × BoardState) StepFault
read_word address p c memory board =
    and_then (physical_at Load 4 address p) (read_physical_word c memory board)
