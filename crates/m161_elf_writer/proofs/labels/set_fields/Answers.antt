use Rattle.std.proofs.Common.{◌∙◌, ap}
use Rattle.std.specs.Int.{w32, to_be_bytes}
use Rattle.m161_elf_writer.proofs.LabelTable.{patched}
use Rattle.m161_elf_writer.proofs.labels.set_fields.Goals as goal

pub returns : goal.returns
returns c = λ entry count rest e.
    patched entry count c.args.headers rest c.args.file.now _ _ _ _ e
    (c.copy_from_slice.ensures.after ∙ c.to_be_bytes.ensures
    ∙ ap (to_be_bytes w32) c.word.ensures)
    (c.copy_from_slice-2.ensures.after ∙ c.to_be_bytes-2.ensures)
    (c.copy_from_slice-3.ensures.after ∙ c.to_be_bytes-3.ensures)
    (c.copy_from_slice-4.ensures.after ∙ c.to_be_bytes-4.ensures)
