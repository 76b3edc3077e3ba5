use Rattle.std.specs.Prelude.{◌≡◌, ℕ, ◌+◌, ◌*◌, ◌/◌, ◌%◌, ◌^◌, Bool, nat_le, ◌&&◌, if◌then◌else◌, List, slice_index, Option, None, Some, Result, Ok, Err}
use Rattle.m161_isa.specs.declared.table.Row.{Row}
use Rattle.m161_isa.specs.declared.instr.Instr.{Instr}
use Rattle.m161_isa.specs.declared.instr.LoadOp.{LoadOp}
use Rattle.m161_isa.specs.declared.instr.LoadOp.TheVariants as load
use Rattle.m161_isa.specs.declared.instr.StoreOp.{StoreOp}
use Rattle.m161_isa.specs.declared.instr.StoreOp.TheVariants as store
use Rattle.m161_isa.specs.Instr.{row_of_instr, numbers_of_instr}
use Rattle.m161_alu.specs.Word.{sign_extended_half}
use Rattle.m161_cpu.specs.declared.fault.StepFault.{StepFault}
use Rattle.m161_cpu.specs.declared.uses.Via.{Via}
use Rattle.m161_cpu.specs.declared.uses.Uses.{Uses}
use Rattle.m161_cpu.specs.Processor.{Processor}
use Rattle.m161_cpu.specs.Scene.{Scene, Change, stored_by}
use Rattle.m161_cpu.specs.Step.{change_in, executable_word}
use Rattle.m161_cpu.specs.Uses.{Reference, fetch_of, reference_in, reference_of_row, via_of, via_reference}
use Rattle.m161_cpu.specs.helpers.Execute.{change_by}

-- How the code finds what a Step uses.

abbrev pub no_uses : Uses
no_uses = record { fetch = None; access = None; stored = None }

-- of a Step that gets no physical address through a row
abbrev pub stores_only : Option ℕ → Uses
stores_only stored = record { fetch = None; access = None; stored = stored }

abbrev pub stored_of : Result Change StepFault → Option ℕ
stored_of (Ok change) = stored_by change.store
stored_of (Err f) = None

-- by the word that was fetched
unfoldable pub uses_of_word : Scene → Option Via → ℕ → Uses
uses_of_word s fetch word = record {
  fetch = fetch;
  access = via_reference s.processor (reference_in s.processor word);
  stored = stored_of (change_in s word);
}

abbrev pub uses_after : Scene → Option Via → Result ℕ StepFault → Uses
uses_after s fetch (Ok word) = uses_of_word s fetch word
uses_after s fetch (Err f) = record { fetch = fetch; access = None; stored = None }

-- of a Step that fetches
unfoldable pub uses_fetched : Scene → Uses
uses_fetched s =
    uses_after s (via_of s.processor (fetch_of s.processor))
    (executable_word s.around.memory s.processor)

-- a word that may be executed, or not
abbrev pub IsWord : Result ℕ StepFault → Option ℕ → Type 0
IsWord r (Some word) = r ≡ Ok word
IsWord r None = (f : StepFault) × (r ≡ Err f)

-- the row of the fetch, and the word that it gives
abbrev pub IsFetched : List ℕ → Processor → Option Via × Option ℕ → Type 0
IsFetched memory p x =
    (x.0 ≡ via_of p (fetch_of p)) × IsWord (executable_word memory p) x.1

-- by the instruction
abbrev pub reference_by_some : Processor → Instr → Option Row → Option Reference
reference_by_some p i (Some r) = reference_of_row p r (numbers_of_instr i)
reference_by_some p i None = None

unfoldable pub reference_by : Processor → Instr → Option Reference
reference_by p i = reference_by_some p i (row_of_instr i)

abbrev pub uses_by : Scene → Option Via → Instr → Uses
uses_by s fetch i = record {
  fetch = fetch;
  access = via_reference s.processor (reference_by s.processor i);
  stored = stored_of (change_by s i);
}

-- the widths that the addresses of loads and stores have to be aligned to
abbrev pub width_of_load : LoadOp → ℕ
width_of_load load.Byte = 1
width_of_load load.ByteUnsigned = 1
width_of_load load.Half = 2
width_of_load load.HalfUnsigned = 2
width_of_load load.Word = 4
width_of_load load.WordLeft = 1
width_of_load load.WordRight = 1
width_of_load load.Linked = 4

abbrev pub width_of_store : StoreOp → ℕ
width_of_store store.Byte = 1
width_of_store store.Half = 2
width_of_store store.Word = 4
width_of_store store.WordLeft = 1
width_of_store store.WordRight = 1
width_of_store store.Conditional = 4

-- the word of RAM that a store touches, from its physical address; `sc` stores if it is linked
abbrev pub place_of_store : StoreOp → ℕ → ℕ → Bool → Option ℕ
place_of_store store.Byte at size linked = if nat_le (at + 1) size then Some (at / 4 * 4) else None
place_of_store store.Half at size linked = if nat_le (at + 2) size then Some (at / 4 * 4) else None
place_of_store store.Word at size linked = if nat_le (at + 4) size then Some at else None
place_of_store store.WordLeft at size linked =
    if nat_le (at / 4 * 4 + 4) size then Some (at / 4 * 4) else None
place_of_store store.WordRight at size linked =
    if nat_le (at / 4 * 4 + 4) size then Some (at / 4 * 4) else None
place_of_store store.Conditional at size linked =
    if nat_le (at + 4) size && linked then Some at else None

-- the address of a load or a store
abbrev pub address_by : Processor → ℕ → ℕ → ℕ
address_by p offset base = (slice_index p.registers base + sign_extended_half offset) % 2 ^ 32
