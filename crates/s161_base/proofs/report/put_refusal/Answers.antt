use Rattle.std.proofs.Common.{decimal}
use Rattle.m161_text.specs.Parts.{◌␣◌}
use Rattle.s161_base.proofs.Putting.{puts_less, puts_same, puts_then}
use Rattle.s161_base.proofs.report.put_refusal.Goals as goal

pub returns-in_err-put_number : goal.returns-in_err-put_number
returns-in_err-put_number g c = puts_less _ _ _ _ _ _ c.in_err-put_number.ensures c.from_residual.ensures.1

pub returns-in_err-put : goal.returns-in_err-put
returns-in_err-put g c = puts_then _ _ _ _ _ _ c.in_ok-put_number.ensures (puts_less _ _ _ _ _ _ c.in_err-put.ensures c.from_residual-in_err-put.ensures.1)

pub returns : goal.returns
returns g c =
    puts_then _ _ _ _ _ _ c.in_ok-put_number.ensures (puts_then _ _ _ _ _ _ c.in_ok-put.ensures
    (puts_same _ _ _ _ _ (λ i. decimal (c.number.ensures i) ␣ c.name.ensures i) c.put_error.ensures))
