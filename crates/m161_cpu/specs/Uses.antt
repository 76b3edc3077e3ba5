use Rattle.std.specs.Prelude.{ℕ, ◌/◌, ◌^◌, Bool, not, ◌&&◌, if◌then◌else◌, List, Option, None, Some, Result, Ok, Err}
use Rattle.m161_isa.specs.declared.effect.Effect.{Effect}
use Rattle.m161_isa.specs.declared.effect.Effect.TheVariants as effect
use Rattle.m161_isa.specs.declared.table.Row.{Row}
use Rattle.m161_isa.specs.Table.{table, row_that_fits, numbers_of}
use Rattle.m161_cop0.specs.Control.{identifier_of, is_pending, is_interrupted}
use Rattle.m161_cpu.specs.declared.fault.Access.{Access}
use Rattle.m161_cpu.specs.declared.fault.Access.TheVariants.{Fetch, Load, Store}
use Rattle.m161_cpu.specs.declared.fault.StepFault.{StepFault}
use Rattle.m161_cpu.specs.declared.translation.Physical.{Physical}
use Rattle.m161_cpu.specs.declared.uses.Via.{Via}
use Rattle.m161_cpu.specs.declared.uses.Uses.{Uses}
use Rattle.m161_cpu.specs.Processor.{Processor}
use Rattle.m161_cpu.specs.Resting.{rests_in}
use Rattle.m161_cpu.specs.Scene.{Scene}
use Rattle.m161_cpu.specs.Translation.{translate}
use Rattle.m161_cpu.specs.Effect.{Argument, arguments, with_three, effective_address}
use Rattle.m161_cpu.specs.Step.{executable_word, lines_in, step_of}

-- What a Step uses: the rows of the TLB through which it gets physical addresses, and the word of
-- RAM that it stores to. The translation is the Step's own, of Translation.antt.

-- a reference to memory: what for, the width that its address has to be aligned to, and the address
pub record Reference : Type 0 where
  pub access : Access
  pub width : ℕ
  pub address : ℕ

abbrev pub reference : Access → ℕ → ℕ → Reference
reference access width address = record { access = access; width = width; address = address }

-- the physical address of a reference, and the row that gives it; or why it traps
abbrev pub translated : Processor → Reference → Result Physical StepFault
translated p r = translate r.access r.width r.address p

-- the row that gave a physical address, with the identifier in EntryHi
abbrev pub via_row : Processor → ℕ → Option ℕ → Option Via
via_row p address None = None
via_row p address (Some row) = Some (record {
  row = row;
  page = address / 2 ^ 12;
  id = identifier_of p.control;
  address = address;
})

abbrev pub via_in : Processor → ℕ → Result Physical StepFault → Option Via
via_in p address (Ok to) = via_row p address to.row
via_in p address (Err f) = None

-- the row through which a reference gets a physical address: none if the address isn't mapped, or
-- if its translation traps
unfoldable pub via_of : Processor → Reference → Option Via
via_of p r = via_in p r.address (translated p r)

abbrev pub via_reference : Processor → Option Reference → Option Via
via_reference p None = None
via_reference p (Some r) = via_of p r

-- the fetch of the current instruction
abbrev pub fetch_of : Processor → Reference
fetch_of p = reference Fetch 4 p.pc

-- the reference of each effect that has one: the law `EffectRefers` says that it is the only one
abbrev at_address : Access → ℕ → Argument → Argument → Option Reference
at_address access width o b = Some (reference access width (effective_address o b))

abbrev pub reference_of : Effect → Argument → Argument → Argument → Option Reference
reference_of effect.LoadByte _ o b = at_address Load 1 o b
reference_of effect.LoadByteUnsigned _ o b = at_address Load 1 o b
reference_of effect.LoadHalf _ o b = at_address Load 2 o b
reference_of effect.LoadHalfUnsigned _ o b = at_address Load 2 o b
reference_of effect.LoadWord _ o b = at_address Load 4 o b
reference_of effect.LoadWordLeft _ o b = at_address Load 1 o b
reference_of effect.LoadWordRight _ o b = at_address Load 1 o b
reference_of effect.LoadLinked _ o b = at_address Load 4 o b
reference_of effect.StoreByte _ o b = at_address Store 1 o b
reference_of effect.StoreHalf _ o b = at_address Store 2 o b
reference_of effect.StoreWord _ o b = at_address Store 4 o b
reference_of effect.StoreWordLeft _ o b = at_address Store 1 o b
reference_of effect.StoreWordRight _ o b = at_address Store 1 o b
reference_of effect.StoreConditional _ o b = at_address Store 4 o b
reference_of _ _ _ _ = None

-- the reference of a row with the numbers of its operands
abbrev pub reference_of_row : Processor → Row → List ℕ → Option Reference
reference_of_row p r numbers =
    with_three (reference_of (table r).effect) (arguments p (table r).operands numbers)

abbrev pub reference_by_row : Processor → ℕ → Option Row → Option Reference
reference_by_row p word (Some r) = reference_of_row p r (numbers_of word (Some r))
reference_by_row p word None = None

-- the reference of the instruction of a word
abbrev pub reference_in : Processor → ℕ → Option Reference
reference_in p word = reference_by_row p word (row_that_fits word)

-- the reference after the fetch: none if there is no word that may be executed
abbrev pub reference_after : Processor → Result ℕ StepFault → Option Reference
reference_after p (Ok word) = reference_in p word
reference_after p (Err f) = None

-- the Step fetches: it isn't idle, and takes no interrupt
abbrev pub fetches : Scene → Bool
fetches s =
    not (rests_in s.processor.state (is_pending (lines_in s) s.processor.control))
    && not (is_interrupted (lines_in s) s.processor.control)

-- the reference of the Step's instruction
abbrev pub reference_of_step : Scene → Option Reference
reference_of_step s =
    if fetches s then reference_after s.processor (executable_word s.around.memory s.processor)
    else None

-- what the Step of a scene uses
unfoldable pub uses_of : Scene → Uses
uses_of s = record {
  fetch = if fetches s then via_of s.processor (fetch_of s.processor) else None;
  access = via_reference s.processor (reference_of_step s);
  stored = (step_of s).stored;
}
