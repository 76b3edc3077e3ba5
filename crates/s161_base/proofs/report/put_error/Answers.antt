use Rattle.s161_base.proofs.Putting.{puts_less, puts_then}
use Rattle.s161_base.proofs.report.put_error.Goals as goal

pub returns-in_err-put_number : goal.returns-in_err-put_number
returns-in_err-put_number g c = let first = rw c.from.ensures at c.in_err-put_number.ensures in puts_less _ _ _ _ _ _ first c.from_residual.ensures.1

pub returns : goal.returns
returns g c = let first = rw c.from.ensures at c.in_ok-put_number.ensures in puts_then _ _ _ _ _ _ first c.put_both.ensures
