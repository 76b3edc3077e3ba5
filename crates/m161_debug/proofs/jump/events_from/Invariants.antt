use Rattle.std.proofs.Common.{◌≡◌, ◌≤◌, ◌+◌, drop, length, take, vec_capacity}
use Rattle.m161_machine.specs.History.{events_of}
use Rattle.m161_debug.proofs.jump.events_from.Given as goal

-- the events so far, and room for the others
abbrev pub invariant-loop-i : goal.invariant-loop-i
invariant-loop-i g l = record {
  items : l.events.items ≡ drop l.first (take l.i (events_of l.machine.log));
  number : length l.events.items + l.first ≡ l.i;
  room : length l.machine.log ≤ vec_capacity l.events + l.first;
}
