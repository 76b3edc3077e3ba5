use Rattle.std.proofs.Common.{◌≡◌, ◌++◌, drop}
use Rattle.m161_c.proofs.explored.bytes_from.Given as goal

-- the bytes so far, and the events that are left
abbrev pub invariant-loop-event : goal.invariant-loop-event
invariant-loop-event l = l.events ≡ l.bytes.items ++ drop l.event-index l.events
