use Rattle.m161_debug.proofs.Names.{by_name, no_word}
use Rattle.m161_debug.proofs.reading.name.Goals as goal

pub returns-in-Some : goal.returns-in-Some
returns-in-Some c = no_word c.args.symbols.now c.args.text.now _ _ c.in-Some.ensures.1

pub returns-in-None : goal.returns-in-None
returns-in-None c = by_name c.args.symbols.now c.args.text.now c.named.result c.in-None.ensures c.requires c.named.ensures
