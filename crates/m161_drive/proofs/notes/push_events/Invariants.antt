use Rattle.std.proofs.Common.{◌≡◌, ◌++◌, take, vec_capacity}
use Rattle.m161_machine.specs.History.{events_of}
use Rattle.m161_drive.proofs.notes.push_events.Given as goal

-- the events so far
abbrev pub invariant-loop-entry : goal.invariant-loop-entry
invariant-loop-entry l = (l.events.items ≡ l.fn.events.items ++ events_of (take l.entry-index l.entries))
    × (vec_capacity l.events ≡ vec_capacity l.fn.events)
