use Rattle.std.proofs.Common.{arith, sym}
use Rattle.std.proofs.lemmas.Fmt.{decimal_digit, decimal_step}
use Rattle.s161_base.proofs.Putting.{puts_less, puts_same, puts_then}
use Rattle.s161_base.proofs.pieces.+put_number.Goals as goal

pub returns-then-n-lt10 : goal.returns-then-n-lt10
returns-then-n-lt10 g t c = puts_same _ _ _ _ _ (sym (decimal_digit c.args.n (omega arith))) c.put_byte.ensures

pub returns-in_err-put_number : goal.returns-in_err-put_number
returns-in_err-put_number g t c =
    puts_same _ _ _ _ _ (sym (decimal_step c.args.n (omega arith) (omega arith))) (puts_less _ _ _ _ _ _ c.in_err-put_number.ensures c.from_residual.ensures.1)

pub returns : goal.returns
returns g t c = puts_same _ _ _ _ _ (sym (decimal_step c.args.n (omega arith) (omega arith))) (puts_then _ _ _ _ _ _ c.in_ok-put_number.ensures c.put_byte-2.ensures)
