use Rattle.m161_elf_writer.proofs.WrittenLaw.{written}
use Rattle.m161_elf_writer.proofs.laws.written_is_loaded.Goals as goal

pub returns : goal.returns
returns c = written
