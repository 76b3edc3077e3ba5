use Rattle.m161_debug.specs.Commands.{IsNumber}
use Rattle.m161_debug.proofs.Parts.{both, no_cut, no_first, no_second, number_lacks}
use Rattle.m161_debug.proofs.reading.numbers.Goals as goal

pub returns-in_err-a : goal.returns-in_err-a
returns-in_err-a c = rw c.from_residual.ensures (no_cut IsNumber IsNumber c.args.text.now c.in_err-a.ensures)

pub returns-in_err-a-2 : goal.returns-in_err-a-2
returns-in_err-a-2 c = rw c.from_residual-in_err-a-2.ensures (no_first IsNumber IsNumber number_lacks c.args.text.now _ _ c.in_ok-a.ensures c.in_err-a-2.ensures)

pub returns-in_err-b : goal.returns-in_err-b
returns-in_err-b c = rw c.from_residual-in_err-b.ensures (no_second IsNumber IsNumber number_lacks c.args.text.now _ _ c.in_ok-a.ensures c.in_err-b.ensures)

pub returns : goal.returns
returns c = both IsNumber IsNumber c.args.text.now _ _ _ _ c.in_ok-a.ensures c.in_ok-a-2.ensures c.in_ok-b.ensures
