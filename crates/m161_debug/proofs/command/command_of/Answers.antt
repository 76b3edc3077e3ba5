use Rattle.m161_debug.proofs.Asked.{asked_alone, asked_cut}
use Rattle.m161_debug.proofs.command.command_of.Goals as goal

pub returns-in-Some : goal.returns-in-Some
returns-in-Some c = asked_cut c.args.symbols.now c.args.line.now c.in-Some.word.now c.in-Some.arguments.now c.command_with.result c.in-Some.ensures c.command_with.ensures

pub returns-in-None : goal.returns-in-None
returns-in-None c = asked_alone c.args.symbols.now c.args.line.now c.command_alone.result c.in-None.ensures (c.command_alone.ensures c.args.symbols.now)
