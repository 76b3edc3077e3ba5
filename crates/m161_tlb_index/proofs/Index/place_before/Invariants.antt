use Rattle.std.proofs.Common.{◌≡◌, ◌-◌, ◌<◌, ◌≤◌}
use Rattle.m161_tlb_index.specs.Chains.{home, owner, start}
use Rattle.m161_tlb_index.proofs.Index.place_before.Given as goal

-- the place belongs to the bucket, and to no row from row i on
abbrev pub invariant-loop-at : goal.invariant-loop-at
invariant-loop-at l = record {
  is_place : l.at < 192;
  owned : owner (home l.self) l.at ≡ l.bucket;
  below : start l.at ≤ l.i;
}

abbrev pub decreases-loop-at : goal.decreases-loop-at
decreases-loop-at l = 64 - start l.at
