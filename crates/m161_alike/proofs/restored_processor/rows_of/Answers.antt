use Rattle.std.proofs.Common.{arith}
use Rattle.std.proofs.lemmas.List.FromFn.{fill_by_all}
use Rattle.m161_tlb.specs.Rows.{blank_row}
use Rattle.m161_alike.specs.Restored.{row_in}
use Rattle.m161_alike.proofs.restored_processor.rows_of.Goals as goal

pub returns : goal.returns
returns c =
    fill_by_all (row_in c.args.words.now) c.loop-i.rows 64 blank_row c.loop-i.invariant.0 (λ k below. c.loop-i.invariant.1 k (omega (arith, below)))
