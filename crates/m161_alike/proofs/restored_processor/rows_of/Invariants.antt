use Rattle.std.proofs.Common.{◌≡◌, ℕ, ◌<◌, length, get_or}
use Rattle.m161_tlb.specs.Rows.{blank_row}
use Rattle.m161_alike.specs.Restored.{row_in}
use Rattle.m161_alike.proofs.restored_processor.rows_of.Given as goal

-- the rows so far
abbrev pub invariant-loop-i : goal.invariant-loop-i
invariant-loop-i l =
    (length l.rows ≡ 64) × ((k : ℕ) → k < l.i → get_or l.rows k blank_row ≡ row_in l.words k)
