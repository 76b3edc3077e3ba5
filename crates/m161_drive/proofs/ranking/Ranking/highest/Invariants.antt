use Rattle.std.proofs.Common.{◌≡◌, ℕ, ◌<◌, ◌≤◌, false, slice_index}
use Rattle.m161_drive.specs.Ready.{is_ready}
use Rattle.m161_drive.proofs.ranking.Ranking.highest.Given as goal

-- no processor is ready at the places behind those that are left
abbrev pub invariant-loop-k : goal.invariant-loop-k
invariant-loop-k g l =
    (l.k ≤ 32)
    × ((j : ℕ) → l.k ≤ j → j < 32 → is_ready l.core.state (slice_index l.self.processors j) ≡ false)

abbrev pub decreases-loop-k : goal.decreases-loop-k
decreases-loop-k g l = l.k
