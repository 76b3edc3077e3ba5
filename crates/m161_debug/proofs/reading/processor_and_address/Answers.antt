use Rattle.m161_debug.specs.Commands.{IsNumber, IsPlace}
use Rattle.m161_debug.proofs.Parts.{both, no_cut, no_first, no_second, number_lacks}
use Rattle.m161_debug.proofs.reading.processor_and_address.Goals as goal

pub returns-in_err-p : goal.returns-in_err-p
returns-in_err-p c = rw c.from_residual.ensures (no_cut IsNumber (IsPlace c.args.symbols.now) c.args.text.now c.in_err-p.ensures)

pub returns-in_err-p-2 : goal.returns-in_err-p-2
returns-in_err-p-2 c = rw c.from_residual-in_err-p-2.ensures (no_first IsNumber (IsPlace c.args.symbols.now) number_lacks c.args.text.now _ _ c.in_ok-p.ensures c.in_err-p-2.ensures)

pub returns-in_err-at : goal.returns-in_err-at
returns-in_err-at c = rw c.from_residual-in_err-at.ensures (no_second IsNumber (IsPlace c.args.symbols.now) number_lacks c.args.text.now _ _ c.in_ok-p.ensures c.in_err-at.ensures)

pub returns : goal.returns
returns c = both IsNumber (IsPlace c.args.symbols.now) c.args.text.now _ _ _ _ c.in_ok-p.ensures c.in_ok-p-2.ensures c.in_ok-at.ensures
