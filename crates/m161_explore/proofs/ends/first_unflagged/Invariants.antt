use Rattle.std.proofs.Common.{◌≡◌, ℕ, ◌<◌, true}
use Rattle.m161_explore.specs.helpers.Ends.{flag_at}
use Rattle.m161_explore.proofs.ends.first_unflagged.Given as goal

abbrev pub invariant-loop-at : goal.invariant-loop-at
invariant-loop-at l = (k : ℕ) → k < l.at → flag_at l.flags k ≡ true
