use Rattle.std.proofs.Common.{◌≡◌, ℕ, ◌<◌, length, get_or}
use Rattle.m161_tlb.specs.Rows.{blank_row}
use Rattle.m161_cpu.proofs.processor.restore.restore_rows.Given as goal

-- the rows so far are these
abbrev pub invariant-loop-i : goal.invariant-loop-i
invariant-loop-i g l =
    let rows = g.T.Tlb.rows in
    (length (rows l.tlb) ≡ 64) × ((k : ℕ) → k < l.i → get_or (rows l.tlb) k blank_row ≡ get_or l.rows k blank_row)
