use Rattle.std.proofs.Common.{◌≡◌, ◌++◌, drop, map}
use Rattle.m161_c.specs.Seeds.{number_of_event}
use Rattle.m161_c.proofs.seeds.event_bytes.Given as goal

-- the bytes so far, and the numbers of the events that are left
abbrev pub invariant-loop-event : goal.invariant-loop-event
invariant-loop-event l =
    map (number_of_event l.processors) l.events
    ≡ l.bytes.items ++ map (number_of_event l.processors) (drop l.event-index l.events)
