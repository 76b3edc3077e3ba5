use Rattle.std.proofs.Common.{◌≡◌, ◌∙◌, false, ap, sym, arith}
use Rattle.std.proofs.lemmas.Bool.Decides.{nat_tests}
use Rattle.m161_elf.specs.Symbols.{e_shnum, is_symbol_table, section}
use Rattle.m161_elf.proofs.Rest.{find_later}
use Rattle.m161_elf.proofs.sections.first_symbols.Goals as goal

pub loop-i-preserved : goal.loop-i-preserved
loop-i-preserved c =
    let file = c.args.file.now in
    let i = c.loop-i.i in
    let isnt : is_symbol_table (section file i) ≡ false =
    ap is_symbol_table (sym c.nth_section-header.ensures)
    ∙ (let t : is_symbol_table c.nth_section-header.result ≡ false = grind (arith, nat_tests) in t)
    in
    find_later (section file) is_symbol_table i (e_shnum file) (omega arith) isnt
    ∙ c.loop-i.invariant
