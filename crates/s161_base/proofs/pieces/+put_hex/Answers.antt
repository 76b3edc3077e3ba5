use Rattle.std.proofs.Common.{◌<◌, ◌∷◌, [], ap, arith}
use Rattle.s161_base.proofs.Putting.{hex_last, puts_less, puts_same, puts_then}
use Rattle.s161_base.proofs.pieces.+put_hex.Goals as goal

pub returns-in_err-put_hex : goal.returns-in_err-put_hex
returns-in_err-put_hex g t c =
    let some : 0 < c.args.digits = omega arith in
    puts_same _ _ _ _ _ (hex_last c.args.digits c.args.number some) (puts_less _ _ _ _ _ _ c.in_err-put_hex.ensures c.from_residual.ensures.1)

pub returns : goal.returns
returns g t c =
    let some : 0 < c.args.digits = omega arith in
    puts_same _ _ _ _ _ (hex_last c.args.digits c.args.number some)
    (puts_then _ _ _ _ _ _ c.in_ok-put_hex.ensures (puts_same _ _ _ _ _ (ap (λ d. d ∷ []) c.hex_digit.ensures) c.put_byte.ensures))
