use Rattle.std.proofs.Common.{◌≡◌, take}
use Rattle.m161_machine.proofs.events.Events.from_slice.Given as goal

-- the events so far are the slice's first
abbrev pub invariant-loop-event : goal.invariant-loop-event
invariant-loop-event l = l.events ≡ take l.event-index l.items
