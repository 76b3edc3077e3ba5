use Rattle.std.proofs.Common.{◌≡◌, ◌+◌, ◌++◌, replicate, vec_capacity, vec_len}
use Rattle.m161_machine.proofs.events.push_copies.Given as goal

abbrev pub invariant-loop-i : goal.invariant-loop-i
invariant-loop-i l = (l.events.items ≡ l.fn.events.items ++ replicate l._i l.event)
    × (vec_len l.events ≡ vec_len l.fn.events + l._i)
    × (vec_capacity l.events ≡ vec_capacity l.fn.events)
