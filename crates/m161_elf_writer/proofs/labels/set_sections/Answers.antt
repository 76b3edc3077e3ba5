use Rattle.std.proofs.Common.{◌∙◌, ap, arith, length}
use Rattle.m161_elf_writer.proofs.LabelTable.{written_back}
use Rattle.m161_elf_writer.proofs.labels.set_sections.Goals as goal

pub returns : goal.returns
returns c = λ entry count rest e.
    written_back c.args.file.now.len c.set_fields.new.file c.args.file.now.items _
    (omega (arith, c.set_fields.auto.file, ap length c.deref_mut.ensures.value)) (omega arith)
    (c.set_fields.ensures entry count rest (c.deref_mut.ensures.value ∙ e))
