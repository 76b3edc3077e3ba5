use Rattle.std.proofs.Common.{arith, ℕ, decimal}
use Rattle.m161_text.specs.Parts.{Lacks, IsWord}
use Rattle.m161_steplog.specs.Schedule.{IsCount}
use Rattle.m161_text.proofs.Decimal.{decimal_lacks_space}
use Rattle.m161_text.proofs.Parts.{no_cut, no_first, no_second, both}
use Rattle.m161_steplog.proofs.schedule.parse_times.Goals as goal

one_part : (n : ℕ) → IsWord n → Lacks 32 (decimal n)
one_part n small = decimal_lacks_space n (omega arith)

pub returns-in_err-p : goal.returns-in_err-p
returns-in_err-p c = rw c.from_residual.ensures (no_cut IsWord IsCount decimal decimal c.args.text.now c.in_err-p.ensures)

pub returns-in_err-p-2 : goal.returns-in_err-p-2
returns-in_err-p-2 c = rw c.from_residual-in_err-p-2.ensures (no_first IsWord IsCount decimal decimal _ _ c.args.text.now one_part c.in_ok-p.ensures c.in_err-p-2.ensures)

pub returns-in_err-count : goal.returns-in_err-count
returns-in_err-count c = rw c.from_residual-in_err-count.ensures (no_second IsWord IsCount decimal decimal _ _ c.args.text.now one_part c.in_ok-p.ensures c.in_err-count.ensures)

pub returns : goal.returns
returns c = both IsWord IsCount decimal decimal _ _ c.args.text.now _ _ one_part c.in_ok-p.ensures c.in_ok-p-2.ensures c.in_ok-count.ensures
