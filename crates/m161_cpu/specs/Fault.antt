use Rattle.std.specs.Prelude.{ℕ, ◌+◌, Bool, true, false}
use Rattle.m161_cop0.specs.declared.exception.Exception.{Exception}
use Rattle.m161_cop0.specs.declared.exception.Exception.TheVariants as exception
use Rattle.m161_cop0.specs.declared.trap.Trap.{Trap}
use Rattle.m161_cop0.specs.Trap.{after_trap, vector_of}
use Rattle.m161_cpu.specs.declared.fault.StepFault.{StepFault}
use Rattle.m161_cpu.specs.declared.fault.FaultKind.{FaultKind}
use Rattle.m161_cpu.specs.declared.fault.FaultKind.TheVariants as kind
use Rattle.m161_cpu.specs.Processor.{Processor}

-- Why an instruction isn't executed, and its trap. Kane, MIPS RISC Architecture, "Exception
-- processing".

-- a fault has a kind and an address at fault; one without an address has 0 there, and its trap uses
-- none

abbrev pub fault : FaultKind → StepFault
fault kind = record { kind = kind; address = 0 }

abbrev pub fault_at : FaultKind → ℕ → StepFault
fault_at kind address = record { kind = kind; address = address }

-- the exception of a kind
abbrev pub exception_of : FaultKind → Exception
exception_of kind.Interrupt = exception.Interrupt
exception_of kind.TlbModified = exception.TlbModified
exception_of kind.TlbLoad = exception.TlbLoad
exception_of kind.TlbStore = exception.TlbStore
exception_of kind.UserMissLoad = exception.TlbLoad
exception_of kind.UserMissStore = exception.TlbStore
exception_of kind.AddressErrorLoad = exception.AddressErrorLoad
exception_of kind.AddressErrorStore = exception.AddressErrorStore
exception_of kind.BusErrorFetch = exception.BusErrorFetch
exception_of kind.BusErrorData = exception.BusErrorData
exception_of kind.SystemCall = exception.SystemCall
exception_of kind.Breakpoint = exception.Breakpoint
exception_of kind.ReservedInstruction = exception.ReservedInstruction
exception_of kind.Coprocessor0Unusable = exception.CoprocessorUnusable
exception_of kind.Coprocessor1Unusable = exception.CoprocessorUnusable
exception_of kind.Coprocessor2Unusable = exception.CoprocessorUnusable
exception_of kind.Coprocessor3Unusable = exception.CoprocessorUnusable
exception_of kind.Overflow = exception.Overflow

-- the coprocessor that isn't usable, else 0
abbrev pub unit_of_kind : FaultKind → ℕ
unit_of_kind kind.Coprocessor1Unusable = 1
unit_of_kind kind.Coprocessor2Unusable = 2
unit_of_kind kind.Coprocessor3Unusable = 3
unit_of_kind _ = 0

-- no row matched an address in kuseg
abbrev pub is_user_miss_kind : FaultKind → Bool
is_user_miss_kind kind.UserMissLoad = true
is_user_miss_kind kind.UserMissStore = true
is_user_miss_kind _ = false

-- the trap of a fault at the current instruction
abbrev pub trap_of : StepFault → Processor → Trap
trap_of f p = record {
  code = exception_of f.kind;
  unit = unit_of_kind f.kind;
  user_miss = is_user_miss_kind f.kind;
  pc = p.pc;
  slot = p.slot;
  address = f.address;
}

-- the address at which the processor continues
abbrev pub vector : StepFault → Processor → ℕ
vector f p = vector_of (trap_of f p) p.control

-- a processor that has entered the trap
abbrev pub with_trap : StepFault → Processor → Processor
with_trap f p = record p {
  control = after_trap (trap_of f p) p.control;
  pc = vector f p;
  following = vector f p + 4;
  slot = false;
}
