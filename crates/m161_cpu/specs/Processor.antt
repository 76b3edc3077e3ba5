use Rattle.std.specs.Prelude.{ℕ, ◌+◌, ◌%◌, ◌^◌, Bool, true, false, ◌==◌, if◌then◌else◌, List, slice_set, replicate}
use Rattle.m161_alu.specs.declared.arithmetic.HiLoPair.{HiLoPair}
use Rattle.m161_tlb.specs.declared.row.Row.{Row}
use Rattle.m161_tlb.specs.Rows.{start_rows}
use Rattle.m161_cop0.specs.Control.{Control, control_at_start}
use Rattle.m161_cpu.specs.declared.processor.Flow.{Flow}
use Rattle.m161_cpu.specs.declared.processor.Flow.TheVariants.{Next, NotTaken, Taken}
use Rattle.m161_cpu.specs.declared.processor.ProcessorState.{ProcessorState}
use Rattle.m161_cpu.specs.declared.processor.ProcessorState.TheVariants.{Stopped, Running}

-- A processor. Kane, MIPS RISC Architecture, "CPU registers".

pub record Processor : Type 0 where
  pub registers : List ℕ
  pub hi : ℕ
  pub lo : ℕ
  -- the address of the current instruction, and of the next one
  pub pc : ℕ
  pub following : ℕ
  -- the current instruction is in a delay slot
  pub slot : Bool
  -- coprocessor 0
  pub control : Control
  -- the TLB
  pub rows : List Row
  pub state : ProcessorState
  -- how many Steps it has made
  pub count : ℕ

-- one that was never started
abbrev pub stopped_processor : Processor
stopped_processor = record {
  registers = replicate 32 0;
  hi = 0;
  lo = 0;
  pc = 0;
  following = 0;
  slot = false;
  control = control_at_start;
  rows = start_rows;
  state = Stopped;
  count = 0;
}

-- a start at an address, with words for registers 4 and 29; the count of its Steps stays
abbrev pub started_processor : ℕ → ℕ → ℕ → ℕ → Processor
started_processor pc r4 r29 count = record {
  registers = slice_set (slice_set (replicate 32 0) 4 r4) 29 r29;
  hi = 0;
  lo = 0;
  pc = pc;
  following = (pc + 4) % 2 ^ 32;
  slot = false;
  control = control_at_start;
  rows = start_rows;
  state = Running;
  count = count;
}

-- a register written; a write to register 0 is lost
abbrev pub with_register : ℕ → ℕ → Processor → Processor
with_register r word p =
    record p { registers = if r == 0 then p.registers else slice_set p.registers r word }

abbrev pub with_hi_lo : HiLoPair → Processor → Processor
with_hi_lo pair p = record p { hi = pair.hi; lo = pair.lo }

abbrev pub with_control : Control → Processor → Processor
with_control control p = record p { control = control }

abbrev pub with_row : ℕ → Row → Processor → Processor
with_row i row p = record p { rows = slice_set p.rows i row }

abbrev pub with_state : ProcessorState → Processor → Processor
with_state state p = record p { state = state }

-- the address after the next one: a taken branch's target, or the word after
abbrev pub after_next : Flow → ℕ → ℕ
after_next Next following = (following + 4) % 2 ^ 32
after_next NotTaken following = (following + 4) % 2 ^ 32
after_next (Taken target) following = target

-- the next instruction is in a delay slot
abbrev pub is_slot : Flow → Bool
is_slot Next = false
is_slot NotTaken = true
is_slot (Taken target) = true

-- on to the next instruction
abbrev pub with_flow : Flow → Processor → Processor
with_flow flow p = record p {
  pc = p.following;
  following = after_next flow p.following;
  slot = is_slot flow;
}
