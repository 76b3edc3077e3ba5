use Rattle.std.proofs.Common.{arith, ℕ, decimal}
use Rattle.m161_text.specs.Parts.{Lacks, IsWord}
use Rattle.m161_audit.specs.helpers.WatchText.{IsPlace, place_text}
use Rattle.m161_text.proofs.Decimal.{decimal_lacks_space}
use Rattle.m161_text.proofs.Parts.{no_cut, no_first, no_second, both}
use Rattle.m161_audit.proofs.text.parse_numbers.Goals as goal

one_part : (n : ℕ) → IsWord n → Lacks 32 (decimal n)
one_part n small = decimal_lacks_space n (omega arith)

pub returns-in_err-id : goal.returns-in_err-id
returns-in_err-id c = rw c.from_residual.ensures (no_cut IsWord IsPlace decimal place_text c.args.text.now c.in_err-id.ensures)

pub returns-in_err-id-2 : goal.returns-in_err-id-2
returns-in_err-id-2 c = rw c.from_residual-in_err-id-2.ensures (no_first IsWord IsPlace decimal place_text _ _ c.args.text.now one_part c.in_ok-id.ensures c.in_err-id-2.ensures)

pub returns-in_err-place : goal.returns-in_err-place
returns-in_err-place c = rw c.from_residual-in_err-place.ensures (no_second IsWord IsPlace decimal place_text _ _ c.args.text.now one_part c.in_ok-id.ensures c.in_err-place.ensures)

pub returns : goal.returns
returns c = both IsWord IsPlace decimal place_text _ _ c.args.text.now _ _ one_part c.in_ok-id.ensures c.in_ok-id-2.ensures c.in_ok-place.ensures
