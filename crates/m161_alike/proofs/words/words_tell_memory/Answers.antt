use Rattle.m161_alike.proofs.Memory.{memory_law}
use Rattle.m161_alike.proofs.words.words_tell_memory.Goals as goal

pub returns : goal.returns
returns c = memory_law
