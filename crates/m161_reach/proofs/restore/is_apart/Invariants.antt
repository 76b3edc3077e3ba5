use Rattle.std.proofs.Common.{◌≡◌, ◌≢◌, ℕ, ◌<◌, false}
use Rattle.m161_tlb.specs.Row.{overlaps}
use Rattle.m161_alike.specs.Restored.{row_in}
use Rattle.m161_reach.proofs.restore.is_apart.Given as goal

-- none of the first rows overlaps it
abbrev pub invariant-loop-j : goal.invariant-loop-j
invariant-loop-j l = (j : ℕ) → j < l.j → l.i ≢ j → overlaps (row_in l.words l.i) (row_in l.words j) ≡ false
