use Rattle.std.proofs.Common.{◌≡◌, ◌/◌, ◌≤◌, length, map, vec_capacity}
use Rattle.std.specs.List.{range_with_len}
use Rattle.m161_reach.specs.helpers.Restore.{flags_in}
use Rattle.m161_reach.proofs.kept.keep_again.Given as goal

-- what is kept of the first watches
abbrev pub invariant-loop-i : goal.invariant-loop-i
invariant-loop-i l = (l.kept.items ≡ map (flags_in l.words) (range_with_len 0 l.i)) × (length l.words / 2 ≤ vec_capacity l.kept) × (length l.kept.items ≡ l.i)
