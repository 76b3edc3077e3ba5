use Rattle.s161_base.proofs.Putting.{puts_less, puts_then}
use Rattle.s161_base.proofs.report.put_reason.Goals as goal

pub returns-in_err-put : goal.returns-in_err-put
returns-in_err-put g c = puts_less _ _ _ _ _ _ c.in_err-put.ensures c.from_residual.ensures.1

pub returns : goal.returns
returns g c = puts_then _ _ _ _ _ _ c.in_ok-put.ensures c.put_detail.ensures
