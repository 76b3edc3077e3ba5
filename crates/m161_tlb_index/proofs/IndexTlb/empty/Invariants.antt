use Rattle.std.proofs.Common.{◌≡◌, ℕ, ◌+◌, ◌<◌, ◌≤◌, length, get_or}
use Rattle.m161_tlb.specs.Rows.{blank_row, start_row}
use Rattle.m161_tlb_index.proofs.IndexTlb.empty.Given as goal

-- the rows so far are made, each alone in its bucket
abbrev pub invariant-loop-i : goal.invariant-loop-i
invariant-loop-i l = record {
  row_count : length l.rows ≡ 64;
  link_count : length l.links ≡ 192;
  rows : (k : ℕ) → k < l.i → get_or l.rows k blank_row ≡ start_row k;
  heads : (k : ℕ) → k < l.i → get_or l.links (64 + k) 0 ≡ k;
  nexts : (at : ℕ) → at < 64 → get_or l.links at 0 ≡ 64;
  empty : (at : ℕ) → 64 + l.i ≤ at → at < 192 → get_or l.links at 0 ≡ 64;
}
