use Rattle.std.specs.Prelude.{Bool, false, Option, None, Some}
use Rattle.m161_cpu.specs.declared.processor.Outcome.{Outcome}
use Rattle.m161_machine.specs.declared.event.Event.{Event}
use Rattle.m161_machine.specs.State.{State}
use Rattle.m161_debug.specs.declared.condition.Condition.{Condition}
use Rattle.m161_debug.specs.Conditions.{holds}

-- without a condition a run waits for nothing
abbrev pub holds_if : Option Condition → State → Event → Outcome → State → Bool
holds_if None s e o t = false
holds_if (Some condition) s e o t = holds condition s e o t
