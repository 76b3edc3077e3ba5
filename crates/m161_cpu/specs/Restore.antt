use Rattle.std.specs.Prelude.{◌≡◌, List, length, slice_index}
use Rattle.m161_tlb.specs.declared.row.Row.{Row}
use Rattle.m161_cop0.specs.Restore.{HasBounds, restored_control, ticks_to}
use Rattle.m161_cpu.specs.declared.processor.restore.ProcessorParts.{ProcessorParts}
use Rattle.m161_cpu.specs.Processor.{Processor}

-- A processor that is made anew from what it holds.

-- register 0 is zero, and the registers of coprocessor 0 have their bounds
pub record IsProcessor (parts : ProcessorParts) : Type 0 where
  pub registers : length parts.registers ≡ 32
  pub zero : slice_index parts.registers 0 ≡ 0
  pub control : HasBounds parts.control

-- the processor that holds this, with these rows: all Steps that it made are the ticks of Random
abbrev pub restored_processor : ProcessorParts → List Row → Processor
restored_processor parts rows = record {
  registers = parts.registers;
  hi = parts.hi;
  lo = parts.lo;
  pc = parts.pc;
  following = parts.following;
  slot = parts.slot;
  control = restored_control parts.control;
  rows = rows;
  state = parts.state;
  count = ticks_to parts.control.random;
}
