use Rattle.m161_tlb.proofs.Found.{NoOverlapBelow}
use Rattle.m161_tlb_scan.proofs.ScanTlb.overlap.Given as goal

abbrev pub invariant-loop-j : goal.invariant-loop-j
invariant-loop-j l = NoOverlapBelow l.self l.i l.row l.j
