use Rattle.s161_base.proofs.Putting.{puts_less, puts_then}
use Rattle.s161_base.proofs.report.put_line.Goals as goal

pub returns-in_err-put_head : goal.returns-in_err-put_head
returns-in_err-put_head g c = puts_less _ _ _ _ _ _ c.in_err-put_head.ensures c.from_residual.ensures.1

pub returns : goal.returns
returns g c = puts_then _ _ _ _ _ _ c.in_ok-put_head.ensures c.put_explanation.ensures
