use Rattle.m161_elf_writer.proofs.WrittenFaults.{few_faults}
use Rattle.m161_elf_writer.proofs.laws.written_has_few_faults.Goals as goal

pub returns : goal.returns
returns c = few_faults
