use Rattle.std.proofs.Common.{◌≡◌, ◌-◌, ◌+◌, ◌*◌, ◌≤◌, ◌++◌, replicate, vec_capacity, vec_len}
use Rattle.m161_machine.specs.Events.{unfolded}
use Rattle.m161_machine.proofs.events.append.Given as goal

-- so many times are appended, and the runs have room for the others
abbrev pub invariant-loop-done : goal.invariant-loop-done
invariant-loop-done l = (unfolded l.runs.items ≡ unfolded l.fn.runs.items ++ replicate l.done l.event)
    × (l.done ≤ l.times)
    × (l.times + 0x3fff_ffff * vec_len l.runs ≤ l.done + 0x3fff_ffff * vec_capacity l.runs)

abbrev pub decreases-loop-done : goal.decreases-loop-done
decreases-loop-done l = l.times - l.done
