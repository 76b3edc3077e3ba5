use Rattle.std.proofs.Common.{rules}
use Rattle.std.proofs.lemmas.List.FromFn.{fill_by_all}
use Rattle.m161_tlb.specs.Rows.{start_row}
use Rattle.m161_tlb.specs.Rows.{blank_row}
use Rattle.m161_tlb_scan.proofs.ScanTlb.empty.Goals as goal

pub returns : goal.returns
returns c = fill_by_all start_row c.loop-i.scan 64 blank_row c.loop-i.invariant.0 (search rules)
