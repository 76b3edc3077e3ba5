use Rattle.std.proofs.Common.{◌≡◌, ◌+◌, ◌≤◌, ◌++◌, length, vec_capacity, vec_len}
use Rattle.m161_machine.proofs.events.Events.to_vec.Given as goal

-- the events so far and the remaining ones are the events, and there is room for these
abbrev pub invariant-loop-event : goal.invariant-loop-event
invariant-loop-event l = (l.events.items ++ l.runs ≡ l.self) × (vec_len l.events + length l.runs ≤ vec_capacity l.events)
