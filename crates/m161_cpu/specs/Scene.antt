use Rattle.std.specs.Prelude.{ℕ, Bool, ◌*◌, ◌/◌, List, slice_set, Option, None, Some, unwrap_or, Result, Ok, Err}
use Rattle.m161_alu.specs.declared.arithmetic.HiLoPair.{HiLoPair}
use Rattle.m161_tlb.specs.declared.row.Row.{Row}
use Rattle.m161_ram.specs.Word.{with_half, with_word}
use Rattle.m161_cop0.specs.Control.{Control}
use Rattle.m161_bus.specs.Board.{BoardState}
use Rattle.m161_cpu.specs.declared.processor.Flow.{Flow}
use Rattle.m161_cpu.specs.declared.processor.Flow.TheVariants.{Next}
use Rattle.m161_cpu.specs.declared.processor.ProcessorState.{ProcessorState}
use Rattle.m161_cpu.specs.Processor.{Processor, with_register, with_hi_lo, with_control, with_row, with_state, with_flow}
use Rattle.m161_cpu.specs.Links.{LinkAct, LinkState, Keep, links_after}

-- What one Step of a processor sees, and what its instruction changes.

-- what is around a processor: its number, RAM, the board, the links of all processors, and whether
-- the machine is strict: it stops where a row of a TLB would overlap another
pub record Around : Type 0 where
  pub number : ℕ
  pub memory : List ℕ
  pub board : BoardState
  pub links : LinkState
  pub strict : Bool

abbrev pub around : ℕ → List ℕ → BoardState → LinkState → Bool → Around
around number memory board links strict = record {
  number = number;
  memory = memory;
  board = board;
  links = links;
  strict = strict;
}

-- a processor and what is around it
pub record Scene : Type 0 where
  pub processor : Processor
  pub around : Around

abbrev pub scene : Processor → Around → Scene
scene p a = record { processor = p; around = a }

-- processor p by this number, with this memory, board and links around it, on a strict machine or
-- not
abbrev pub scene_of : Processor → ℕ → List ℕ → BoardState → LinkState → Bool → Scene
scene_of p number memory board links strict = scene p (around number memory board links strict)

-- what is stored, and from which physical address on
pub data Store : Type 0 where
  byte_to : (at byte : ℕ) → Store
  half_to : (at half : ℕ) → Store
  word_to : (at word : ℕ) → Store

-- what an instruction changes; a part that is None stays as it was
pub record Change : Type 0 where
  -- a register and its new word
  pub register : Option (ℕ × ℕ)
  pub hi_lo : Option HiLoPair
  pub store : Option Store
  pub board : Option BoardState
  pub control : Option Control
  -- a row of the TLB, by its number
  pub row : Option (ℕ × Row)
  pub state : Option ProcessorState
  pub link : LinkAct
  -- where the processor continues
  pub flow : Flow

abbrev pub nothing : Change
nothing = record {
  register = None;
  hi_lo = None;
  store = None;
  board = None;
  control = None;
  row = None;
  state = None;
  link = Keep;
  flow = Next;
}

-- a part changed, if there is something to change
abbrev pub apply_part : {A S : Type 0} → (A → S → S) → Option A → S → S
apply_part f None s = s
apply_part f (Some a) s = f a s

-- the processor after a change, at its next address
abbrev pub processor_after : Change → Processor → Processor
processor_after c p =
    with_flow c.flow
    (apply_part with_state c.state
    (apply_part (λ (x : ℕ × Row). with_row x.0 x.1) c.row
    (apply_part with_control c.control
    (apply_part with_hi_lo c.hi_lo
    (apply_part (λ (x : ℕ × ℕ). with_register x.0 x.1) c.register p)))))

abbrev pub with_store : Store → List ℕ → List ℕ
with_store (byte_to at byte) memory = slice_set memory at byte
with_store (half_to at half) memory = with_half memory at half
with_store (word_to at word) memory = with_word memory at word

-- the address of the word of RAM that a store touches
abbrev pub word_of_store : Store → ℕ
word_of_store (byte_to at byte) = at / 4 * 4
word_of_store (half_to at half) = at / 4 * 4
word_of_store (word_to at word) = at

abbrev pub stored_by : Option Store → Option ℕ
stored_by None = None
stored_by (Some store) = Some (word_of_store store)

-- what is around the processor after a change
abbrev pub around_after : Change → Around → Around
around_after c a = record a {
  memory = apply_part with_store c.store a.memory;
  board = unwrap_or c.board a.board;
  links = links_after a.number c.link (stored_by c.store) a.links;
}

-- a function of a result
abbrev pub result_map : {T U E : Type 0} → (T → U) → Result T E → Result U E
result_map f (Ok x) = Ok (f x)
result_map f (Err e) = Err e

abbrev pub and_then : {T U E : Type 0} → Result T E → (T → Result U E) → Result U E
and_then (Ok x) f = f x
and_then (Err e) f = Err e
