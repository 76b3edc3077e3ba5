use Rattle.m161_elf_writer.proofs.LabelsLoad.{loads_alike}
use Rattle.m161_elf_writer.proofs.laws.symbols_load_alike.Goals as goal

pub returns : goal.returns
returns c = loads_alike
