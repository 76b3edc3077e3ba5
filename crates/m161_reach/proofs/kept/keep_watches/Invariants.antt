use Rattle.std.proofs.Common.{◌≡◌, ◌≤◌, length, map, take, vec_capacity}
use Rattle.m161_states.specs.System.{no_flags}
use Rattle.m161_reach.proofs.kept.keep_watches.Given as goal

-- what is kept of the first watches
abbrev pub invariant-loop-i : goal.invariant-loop-i
invariant-loop-i l = (l.kept.items ≡ map no_flags (take l.i l.watches)) × (length l.watches ≤ vec_capacity l.kept)
