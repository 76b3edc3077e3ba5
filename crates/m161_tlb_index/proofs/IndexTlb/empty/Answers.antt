use Rattle.std.proofs.Common.{rules, arith, ℕ, get_or}
use Rattle.std.proofs.lemmas.List.{get_or-replicate}
use Rattle.std.proofs.lemmas.List.FromFn.{fill_by_all}
use Rattle.m161_tlb.specs.Rows.{blank_row, start_row}
use Rattle.m161_tlb_index.proofs.Start.{linked_at_start}
use Rattle.m161_tlb_index.proofs.IndexTlb.empty.Goals as goal

pub loop-i-init : goal.loop-i-init
loop-i-init c = record {
  row_count = search rules;
  link_count = search rules;
  rows = λ k h. absurd (omega arith);
  heads = λ k h. absurd (omega arith);
  nexts = λ at h. get_or-replicate 192 at 64 0 (omega arith);
  empty = λ at h place. get_or-replicate 192 at 64 0 place;
}

pub invariant_of-result : goal.invariant_of-result
invariant_of-result c =
    let made = c.loop-i.invariant in (
      made.row_count,
      made.link_count,
      linked_at_start c.loop-i.rows (λ (at : ℕ). get_or c.loop-i.links at 0)
          (λ i h. made.rows i (omega arith)) (λ i h. made.heads i (omega arith)) made.nexts (λ at h place. made.empty at (omega arith) place),
    )

pub returns : goal.returns
returns c = fill_by_all start_row c.loop-i.rows 64 blank_row c.loop-i.invariant.row_count (search rules)
