use Rattle.std.specs.Prelude.{◌≡◌, ℕ, false, if◌then◌else◌, Option, None}
use Rattle.m161_isa.specs.Address.{unmapped}
use Rattle.m161_cpu.specs.Processor.{Processor}
use Rattle.m161_cpu.specs.Translation.{is_misaddressed, is_store}
use Rattle.m161_cpu.specs.Uses.{Reference}

-- The load of a Step, before it is made.

-- a reference is a load of this width from this address
pub record IsLoad (width address : ℕ) (r : Reference) : Type 0 where
  pub loads : is_store r.access ≡ false
  pub width_is : r.width ≡ width
  pub address_is : r.address ≡ address

-- its physical address, if no row is needed
abbrev pub direct : ℕ → ℕ → Processor → Option ℕ
direct width address p = if is_misaddressed width address p then None else unmapped address
