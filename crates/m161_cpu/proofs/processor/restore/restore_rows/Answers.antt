use Rattle.std.proofs.Common.{◌∙◌, refl, sym, ℕ, get_or, rules}
use Rattle.std.proofs.lemmas.List.FromFn.{fill_by_all}
use Rattle.m161_tlb.specs.Rows.{blank_row}
use Rattle.m161_cpu.proofs.processor.restore.restore_rows.Goals as goal

pub returns : goal.returns
returns g c =
    let row = λ (k : ℕ). get_or c.args.rows.now k blank_row in
    fill_by_all row (g.T.Tlb.rows c.loop-i.tlb) 64 blank_row c.loop-i.invariant.0 (search rules)
    ∙ sym (fill_by_all row c.args.rows.now 64 blank_row (search rules) (λ k here. refl))
