use Rattle.std.specs.Prelude.{ℕ}
use Rattle.m161_machine.specs.declared.event.Event.{Event}
use Rattle.m161_machine.specs.declared.event.Event.TheVariants as events

-- The last Step before a place.

-- the processor of the last Step, if an event comes behind it
abbrev pub last_after : Event → ℕ → ℕ
last_after (events.Step p) last = p
last_after (events.Key byte) last = last
last_after events.Done last = last
