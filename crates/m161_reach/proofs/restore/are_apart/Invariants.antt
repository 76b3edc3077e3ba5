use Rattle.std.proofs.Common.{◌≡◌, ◌≢◌, ℕ, ◌<◌, false}
use Rattle.m161_tlb.specs.Row.{overlaps}
use Rattle.m161_alike.specs.Restored.{row_in}
use Rattle.m161_reach.proofs.restore.are_apart.Given as goal

-- none of the first rows overlaps another one
abbrev pub invariant-loop-i : goal.invariant-loop-i
invariant-loop-i l = (i j : ℕ) → i < l.i → j < 64 → i ≢ j → overlaps (row_in l.words i) (row_in l.words j) ≡ false
