use Rattle.std.proofs.Common.{◌≡◌, ℕ, ◌<◌, length, get_or}
use Rattle.m161_tlb.specs.Rows.{blank_row}
use Rattle.m161_tlb_index.proofs.copy_rows.Given as goal

-- the rows so far are copied
abbrev pub invariant-loop-i : goal.invariant-loop-i
invariant-loop-i l =
    (length l.copy ≡ 64) × ((k : ℕ) → k < l.i → get_or l.copy k blank_row ≡ get_or l.rows k blank_row)
