use Rattle.std.proofs.Common.{sym}
use Rattle.m161_debug.proofs.Names.{named_behind, named_by_symbol}
use Rattle.m161_debug.proofs.reading.named.Goals as goal

pub returns-in-Some : goal.returns-in-Some
returns-in-Some c = named_by_symbol c.args.symbols.now c.args.text.now c.in-Some.value (sym c.in-Some.ensures)

pub returns-in-None : goal.returns-in-None
returns-in-None c = named_behind c.args.symbols.now c.args.text.now c.behind.result (sym c.in-None.ensures) c.behind.ensures
