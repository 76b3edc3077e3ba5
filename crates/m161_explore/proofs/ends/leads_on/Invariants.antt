use Rattle.std.proofs.Common.{◌≡◌, ℕ, ◌+◌, ◌<◌, false}
use Rattle.m161_explore.specs.helpers.Ends.{flag_at}
use Rattle.m161_explore.specs.Search.{link_at}
use Rattle.m161_explore.proofs.ends.leads_on.Given as goal

abbrev pub invariant-loop-event : goal.invariant-loop-event
invariant-loop-event l = (e c : ℕ) → e < l.event → link_at l.width l.links l.from e ≡ c + 1 → flag_at l.flags c ≡ false
