use Rattle.std.proofs.Common.{arith, ℕ, decimal}
use Rattle.m161_text.specs.Parts.{Lacks}
use Rattle.m161_text.proofs.Decimal.{decimal_lacks_space}
use Rattle.m161_text.proofs.Parts.{no_cut, no_first, no_second, both}
use Rattle.m161_steplog.specs.helpers.Text.{IsRow}
use Rattle.m161_steplog.proofs.line.parse_rows.Goals as goal

one_part : (row : ℕ) → IsRow row → Lacks 32 (decimal row)
one_part row small = decimal_lacks_space row (omega arith)

pub returns-in_err-row : goal.returns-in_err-row
returns-in_err-row c = rw c.from_residual.ensures (no_cut IsRow IsRow decimal decimal c.args.text.now c.in_err-row.ensures)

pub returns-in_err-row-2 : goal.returns-in_err-row-2
returns-in_err-row-2 c = rw c.from_residual-in_err-row-2.ensures (no_first IsRow IsRow decimal decimal _ _ c.args.text.now one_part c.in_ok-row.ensures c.in_err-row-2.ensures)

pub returns-in_err-other : goal.returns-in_err-other
returns-in_err-other c = rw c.from_residual-in_err-other.ensures (no_second IsRow IsRow decimal decimal _ _ c.args.text.now one_part c.in_ok-row.ensures c.in_err-other.ensures)

pub returns : goal.returns
returns c = both IsRow IsRow decimal decimal _ _ c.args.text.now _ _ one_part c.in_ok-row.ensures c.in_ok-row-2.ensures c.in_ok-other.ensures
