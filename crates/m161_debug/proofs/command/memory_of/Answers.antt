use Rattle.m161_debug.proofs.Asked.{no_memory}
use Rattle.m161_debug.proofs.command.memory_of.Goals as goal

pub returns-in-None : goal.returns-in-None
returns-in-None c = no_memory c.args.symbols.now c.args.arguments.now c.in-None.ensures
