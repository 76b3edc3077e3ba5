use Rattle.m161_debug.proofs.Asked.{condition_alone, condition_cut}
use Rattle.m161_debug.proofs.command.condition_of.Goals as goal

pub returns-in-Some : goal.returns-in-Some
returns-in-Some c = condition_cut c.args.symbols.now c.args.text.now c.in-Some.word.now c.in-Some.arguments.now c.condition_with.result c.in-Some.ensures c.condition_with.ensures

pub returns-in-None : goal.returns-in-None
returns-in-None c = condition_alone c.args.symbols.now c.args.text.now c.condition_alone.result c.in-None.ensures (c.condition_alone.ensures c.args.symbols.now)
