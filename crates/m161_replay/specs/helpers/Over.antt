use Rattle.std.specs.Prelude.{Bool, true, false, not, Option, None, Some, Result, Ok, Err}
use Rattle.m161_cpu.specs.declared.processor.Outcome.{Outcome}
use Rattle.m161_machine.specs.declared.event.Event.{Event}
use Rattle.m161_machine.specs.declared.event.Refusal.{Refusal}
use Rattle.m161_machine.specs.State.{State, next}

-- whether an event was accepted
abbrev pub is_accepted : Result (Outcome × State) Refusal → Bool
is_accepted (Ok made) = true
is_accepted (Err refusal) = false

-- whether no event is made any more, where this one is next
abbrev pub is_over : State → Option Event → Bool
is_over s None = true
is_over s (Some e) = not (is_accepted (next s e))
