use Rattle.std.proofs.Common.{◌*◌}
use Rattle.m161_tlb.proofs.Found.{NoneBelow}
use Rattle.m161_tlb_scan.proofs.ScanTlb.find.Given as goal

abbrev pub invariant-loop-block : goal.invariant-loop-block
invariant-loop-block l = NoneBelow l.self l.page l.id (l.block * 8)

abbrev pub invariant-loop-i : goal.invariant-loop-i
invariant-loop-i l = NoneBelow l.self l.page l.id l.i
