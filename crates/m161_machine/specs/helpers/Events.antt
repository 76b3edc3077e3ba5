use Rattle.std.specs.Prelude.{ℕ, ◌==◌, if◌then◌else◌}
use Rattle.m161_machine.specs.declared.event.Event.{Event}
use Rattle.m161_machine.specs.declared.event.Event.TheVariants.{Step, Key, Done}

-- the event of a kind, with its processor or its byte
abbrev pub event_of : ℕ → ℕ → Event
event_of kind number = if kind == 0 then Step number else if kind == 1 then Key number else Done
