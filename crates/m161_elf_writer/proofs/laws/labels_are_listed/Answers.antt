use Rattle.m161_elf_writer.proofs.LabelsListed.{labels_listed}
use Rattle.m161_elf_writer.proofs.laws.labels_are_listed.Goals as goal

pub returns : goal.returns
returns c = labels_listed
