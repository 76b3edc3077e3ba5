use Rattle.s161_base.proofs.Putting.{puts_less, puts_then}
use Rattle.s161_base.proofs.report.put_outside.Goals as goal

pub returns-in_err-put : goal.returns-in_err-put
returns-in_err-put g c = puts_less _ _ _ _ _ _ c.in_err-put.ensures c.from_residual.ensures.1

pub returns-in_err-put_hex : goal.returns-in_err-put_hex
returns-in_err-put_hex g c =
    puts_then _ _ _ _ _ _ c.in_ok-put.ensures (puts_less _ _ _ _ _ _ c.in_err-put_hex.ensures c.from_residual-in_err-put_hex.ensures.1)

pub returns-in_err-put_numbered : goal.returns-in_err-put_numbered
returns-in_err-put_numbered g c =
    let ram = rw c.from.ensures at c.in_err-put_numbered.ensures in
    puts_then _ _ _ _ _ _ c.in_ok-put.ensures
    (puts_then _ _ _ _ _ _ c.in_ok-put_hex.ensures (puts_less _ _ _ _ _ _ ram c.from_residual-in_err-put_numbered.ensures.1))

pub returns : goal.returns
returns g c =
    let ram = rw c.from.ensures at c.in_ok-put_numbered.ensures in
    puts_then _ _ _ _ _ _ c.in_ok-put.ensures (puts_then _ _ _ _ _ _ c.in_ok-put_hex.ensures (puts_then _ _ _ _ _ _ ram c.put-2.ensures))
