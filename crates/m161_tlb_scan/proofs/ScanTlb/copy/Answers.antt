use Rattle.std.proofs.Common.{◌∙◌, refl, sym, ℕ, get_or, rules}
use Rattle.std.proofs.lemmas.List.FromFn.{fill_by_all}
use Rattle.m161_tlb.specs.Rows.{blank_row}
use Rattle.m161_tlb_scan.proofs.ScanTlb.copy.Goals as goal

pub returns : goal.returns
returns c =
    let row = λ (k : ℕ). get_or c.args.self.now k blank_row in
    fill_by_all row c.loop-i.scan 64 blank_row c.loop-i.invariant.0 (search rules)
    ∙ sym (fill_by_all row c.args.self.now 64 blank_row (search rules) (λ k here. refl))
