use Rattle.m161_debug.specs.Commands.{IsNumber, IsPlace}
use Rattle.m161_debug.proofs.Names.{place_lacks}
use Rattle.m161_debug.proofs.Parts.{both, no_cut, no_first, no_second}
use Rattle.m161_debug.proofs.reading.address_and_count.Goals as goal

pub returns-in_err-at : goal.returns-in_err-at
returns-in_err-at c = rw c.from_residual.ensures (no_cut (IsPlace c.args.symbols.now) IsNumber c.args.text.now c.in_err-at.ensures)

pub returns-in_err-at-2 : goal.returns-in_err-at-2
returns-in_err-at-2 c = rw c.from_residual-in_err-at-2.ensures (no_first (IsPlace c.args.symbols.now) IsNumber (place_lacks c.args.symbols.now) c.args.text.now _ _ c.in_ok-at.ensures c.in_err-at-2.ensures)

pub returns-in_err-n : goal.returns-in_err-n
returns-in_err-n c = rw c.from_residual-in_err-n.ensures (no_second (IsPlace c.args.symbols.now) IsNumber (place_lacks c.args.symbols.now) c.args.text.now _ _ c.in_ok-at.ensures c.in_err-n.ensures)

pub returns : goal.returns
returns c = both (IsPlace c.args.symbols.now) IsNumber c.args.text.now _ _ _ _ c.in_ok-at.ensures c.in_ok-at-2.ensures c.in_ok-n.ensures
