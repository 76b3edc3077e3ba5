use Rattle.std.proofs.Common.{append_assoc, decimal, sym, ◌∷◌, []}
use Rattle.s161_base.proofs.Putting.{puts_less, puts_same, puts_then}
use Rattle.s161_base.proofs.report.put_place.Goals as goal

pub returns-in_err-put_number : goal.returns-in_err-put_number
returns-in_err-put_number g c =
    puts_same _ _ _ _ _ (sym (append_assoc (decimal c.args.error.line) (58 ∷ []) (decimal c.args.error.column)))
    (puts_less _ _ _ _ _ _ c.in_err-put_number.ensures c.from_residual.ensures.1)

pub returns : goal.returns
returns g c =
    puts_same _ _ _ _ _ (sym (append_assoc (decimal c.args.error.line) (58 ∷ []) (decimal c.args.error.column)))
    (puts_then _ _ _ _ _ _ c.in_ok-put_number.ensures c.put_numbered.ensures)
