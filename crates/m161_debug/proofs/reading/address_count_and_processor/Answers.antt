use Rattle.m161_debug.specs.Commands.{AreNumbers, IsPlace}
use Rattle.m161_debug.proofs.Names.{place_lacks}
use Rattle.m161_debug.proofs.Parts.{both, no_cut, no_first, no_second}
use Rattle.m161_debug.proofs.reading.address_count_and_processor.Goals as goal

pub returns-in_err-at : goal.returns-in_err-at
returns-in_err-at c = rw c.from_residual.ensures (no_cut (IsPlace c.args.symbols.now) AreNumbers c.args.text.now c.in_err-at.ensures)

pub returns-in_err-at-2 : goal.returns-in_err-at-2
returns-in_err-at-2 c = rw c.from_residual-in_err-at-2.ensures (no_first (IsPlace c.args.symbols.now) AreNumbers (place_lacks c.args.symbols.now) c.args.text.now _ _ c.in_ok-at.ensures c.in_err-at-2.ensures)

pub returns-in_err-rest : goal.returns-in_err-rest
returns-in_err-rest c = rw c.from_residual-in_err-rest.ensures (no_second (IsPlace c.args.symbols.now) AreNumbers (place_lacks c.args.symbols.now) c.args.text.now _ _ c.in_ok-at.ensures c.in_err-rest.ensures)

pub returns : goal.returns
returns c = both (IsPlace c.args.symbols.now) AreNumbers c.args.text.now _ _ _ _ c.in_ok-at.ensures c.in_ok-at-2.ensures c.in_ok-rest.ensures
