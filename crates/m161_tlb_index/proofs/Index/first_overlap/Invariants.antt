use Rattle.std.proofs.Common.{◌-◌}
use Rattle.m161_tlb.specs.Rows.{is_overlap}
use Rattle.m161_tlb_index.specs.Chains.{home}
use Rattle.m161_tlb_index.specs.helpers.Search.{Reaches}
use Rattle.m161_tlb_index.proofs.Index.first_overlap.Given as goal

abbrev pub invariant-loop-at : goal.invariant-loop-at
invariant-loop-at l = Reaches (home l.self) l.bucket (is_overlap l.self l.i l.row) l.at

abbrev pub decreases-loop-at : goal.decreases-loop-at
decreases-loop-at l = 64 - l.at
