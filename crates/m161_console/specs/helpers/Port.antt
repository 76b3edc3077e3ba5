use Rattle.std.specs.Prelude.{Bool}
use Rattle.m161_bus.specs.declared.irq.IrqBits.{IrqBits}
use Rattle.m161_bus.specs.Console.{ConsoleState}

-- RIRQ, if bytes wait or if none does
abbrev pub read_irq_if : Bool → ConsoleState → IrqBits
read_irq_if waits s = record { enable = s.read_enable; active = waits; force = s.read_force }
