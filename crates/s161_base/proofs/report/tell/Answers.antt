use Rattle.s161_base.proofs.Putting.{puts_err, puts_less, puts_then}
use Rattle.s161_base.proofs.report.tell.Goals as goal

pub returns-in_err-put_line-clause-err : goal.returns-in_err-put_line-clause-err
returns-in_err-put_line-clause-err g c = puts_err _ _ _ _ (puts_less _ _ _ _ _ _ c.in_err-put_line.ensures c.from_residual.ensures.1)

pub returns-clause-err : goal.returns-clause-err
returns-clause-err g c = puts_err _ _ _ _ (puts_then _ _ _ _ _ _ c.in_ok-put_line.ensures c.put.ensures)
