use Rattle.m161_debug.proofs.Asked.{no_change}
use Rattle.m161_debug.proofs.command.breakpoint_of.Goals as goal

pub returns-in-None : goal.returns-in-None
returns-in-None c = no_change c.args.symbols.now c.args.change c.args.arguments.now c.in-None.ensures
