use Rattle.std.proofs.Common.{sym, rules}
use Rattle.std.proofs.lemmas.List.{map-set}
use Rattle.m161_tlb_scan.proofs.ScanTlb.write.Goals as goal

pub invariant_of-self : goal.invariant_of-self
invariant_of-self c =
    (search rules, rw (c.number.ensures.value, c.self.invariant.1) (sym (map-set _ _ _ _)))
