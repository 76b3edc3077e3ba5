use Rattle.std.proofs.Common.{arith, ◌∙◌, sym, ap, Some}
use Rattle.std.specs.List.{slice_get}
use Rattle.m161_elf.specs.Symbols.{e_shnum, section}
use Rattle.m161_elf.proofs.Listed.{sections_are}
use Rattle.m161_elf.proofs.Rest.{get_none, get_some}
use Rattle.m161_elf.proofs.sections.linked_section.Goals as goal

pub returns-then-number-from : goal.returns-then-number-from
returns-then-number-from c =
    let file = c.args.file.now in
    ap (λ s. Some s) c.nth_section.ensures
    ∙ sym (ap (λ ss. slice_get ss c.args.number) (sections_are file c.requires)
    ∙ get_some (section file) (e_shnum file) c.args.number (omega arith))

pub returns-else-number-from : goal.returns-else-number-from
returns-else-number-from c =
    let file = c.args.file.now in
    sym (ap (λ ss. slice_get ss c.args.number) (sections_are file c.requires)
    ∙ get_none (section file) (e_shnum file) c.args.number (omega arith))
