use Rattle.m161_debug.proofs.Names.{by_address}
use Rattle.m161_debug.proofs.reading.place.Goals as goal

pub returns-in-Some : goal.returns-in-Some
returns-in-Some c = by_address c.args.symbols.now c.args.text.now c.in-Some.at c.in-Some.ensures.found
