use Rattle.std.specs.Prelude.{◌≡◌, ℕ, ◌+◌, ◌*◌, ◌%◌, ◌^◌, false, Option, None, Some, Ok, slice_get}
use Rattle.m161_isa.specs.Address.{unmapped}
use Rattle.m161_tlb.specs.declared.row.Row.{Row}
use Rattle.m161_cpu.specs.declared.uses.Via.{Via}
use Rattle.m161_cpu.specs.Processor.{Processor}
use Rattle.m161_cpu.specs.Translation.{is_store}
use Rattle.m161_cpu.specs.Uses.{Reference, reference_in}
use Rattle.m161_cpu.specs.UsesLaw.{address_of}

-- a physical address is that of a virtual one through this row, or through none
abbrev pub Locates : Processor → ℕ → ℕ → Option Via → Type 0
Locates p address at None = unmapped address ≡ Some at
Locates p address at (Some via) =
    (row : Row) × (slice_get p.rows via.row ≡ Some row) × (at ≡ row.frame * 2 ^ 12 + address % 2 ^ 12)

-- a reference that is no store has a physical address, and through this row, or through none
pub record IsReached (p : Processor) (r : Reference) (via : Option Via) : Type 0 where
  pub at : ℕ
  pub address_is : address_of p r ≡ Ok at
  pub locates : is_store r.access ≡ false → Locates p r.address at via

-- so has that of a word's instruction, if it has one
abbrev pub Reaches : Processor → ℕ → Option Via → Type 0
Reaches p word via = (r : Reference) → reference_in p word ≡ Some r → IsReached p r via

-- a load from this address
pub record IsLoadFrom (address : ℕ) (r : Reference) : Type 0 where
  pub loads : is_store r.access ≡ false
  pub address_is : r.address ≡ address
