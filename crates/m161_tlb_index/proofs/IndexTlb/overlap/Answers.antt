use Rattle.std.proofs.Common.{sym, rules}
use Rattle.m161_tlb.specs.Rows.{is_overlap}
use Rattle.m161_tlb_index.specs.helpers.Search.{IsFirst}
use Rattle.m161_tlb_index.proofs.Matches.{first_overlap_is_found, no_overlap_is_found}
use Rattle.m161_tlb_index.proofs.IndexTlb.overlap.Goals as goal
use Rattle.m161_tlb_index.proofs.IndexTlb.overlap.Goals.{then-row, else-row}

pub returns-then-first-lt-NONE-clause-lowest : goal.returns-then-first-lt-NONE-clause-lowest
returns-then-first-lt-NONE-clause-lowest c =
    let first : IsFirst (is_overlap c.args.self.now c.args.i c.args.row) c.if-row.first = elim c.if-row.branch [
      | then-row w ↦ rw w.first-is w.overlap_in_rows-first.ensures
      | else-row w ↦ rw w.first-is w.overlap_in_chains-first.ensures
    ] in
    sym (first_overlap_is_found c.args.self.now c.args.i c.args.row _ (search rules) first c.if-first-lt-NONE.true)

pub returns-else-first-lt-NONE-clause-lowest : goal.returns-else-first-lt-NONE-clause-lowest
returns-else-first-lt-NONE-clause-lowest c =
    let first : IsFirst (is_overlap c.args.self.now c.args.i c.args.row) c.if-row.first = elim c.if-row.branch [
      | then-row w ↦ rw w.first-is w.overlap_in_rows-first.ensures
      | else-row w ↦ rw w.first-is w.overlap_in_chains-first.ensures
    ] in
    sym (no_overlap_is_found c.args.self.now c.args.i c.args.row _ (search rules) first c.if-first-lt-NONE.false)
