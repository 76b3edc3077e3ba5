use Rattle.std.proofs.Common.{arith, ℕ, decimal}
use Rattle.m161_text.specs.Parts.{Lacks, IsWord}
use Rattle.m161_steplog.specs.helpers.Size.{size_end_text, IsSizeEnd}
use Rattle.m161_text.proofs.Decimal.{decimal_lacks_space}
use Rattle.m161_text.proofs.Parts.{no_cut, no_first, no_second, both}
use Rattle.m161_steplog.proofs.size.parse_ram.Goals as goal

one_part : (n : ℕ) → IsWord n → Lacks 32 (decimal n)
one_part n small = decimal_lacks_space n (omega arith)

pub returns-in_err-ram : goal.returns-in_err-ram
returns-in_err-ram c = rw c.from_residual.ensures (no_cut IsWord IsSizeEnd decimal size_end_text c.args.text.now c.in_err-ram.ensures)

pub returns-in_err-ram-2 : goal.returns-in_err-ram-2
returns-in_err-ram-2 c = rw c.from_residual-in_err-ram-2.ensures (no_first IsWord IsSizeEnd decimal size_end_text _ _ c.args.text.now one_part c.in_ok-ram.ensures c.in_err-ram-2.ensures)

pub returns-in_err-end : goal.returns-in_err-end
returns-in_err-end c = rw c.from_residual-in_err-end.ensures (no_second IsWord IsSizeEnd decimal size_end_text _ _ c.args.text.now one_part c.in_ok-ram.ensures c.in_err-end.ensures)

pub returns : goal.returns
returns c = both IsWord IsSizeEnd decimal size_end_text _ _ c.args.text.now _ _ one_part c.in_ok-ram.ensures c.in_ok-ram-2.ensures c.in_ok-end.ensures
