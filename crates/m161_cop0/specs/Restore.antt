use Rattle.std.specs.Prelude.{ℕ, ◌-◌, ◌<◌, ◌≤◌}
use Rattle.m161_cop0.specs.declared.control.restore.Cop0Parts.{Cop0Parts}
use Rattle.m161_cop0.specs.Control.{Control}

-- Registers that are made anew from what they hold.

-- Random is one of its values, and CE and software's bits of IP have two bits each
pub record HasBounds (parts : Cop0Parts) : Type 0 where
  pub lowest : 8 ≤ parts.random
  pub highest : parts.random ≤ 63
  pub unit : parts.cause.unit < 4
  pub software : parts.cause.software < 4

-- the least number of ticks from a start on that brings Random to a row
abbrev pub ticks_to : ℕ → ℕ
ticks_to random = 63 - random

-- the registers that hold this
abbrev pub restored_control : Cop0Parts → Control
restored_control parts = record {
  index = parts.index;
  random = parts.random;
  entry_lo = parts.entry_lo;
  context = parts.context;
  bad_vaddr = parts.bad_vaddr;
  count = parts.count;
  entry_hi = parts.entry_hi;
  compare = parts.compare;
  status = parts.status;
  epc = parts.epc;
  branch_delay = parts.cause.branch_delay;
  unit = parts.cause.unit;
  code = parts.cause.code;
  timer = parts.cause.timer;
  software = parts.cause.software;
  age = ticks_to parts.random;
}
