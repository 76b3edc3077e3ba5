use Rattle.s161_base.proofs.Putting.{puts_less, puts_then}
use Rattle.s161_base.proofs.report.put_segment.Goals as goal

pub returns-in_err-put_numbered : goal.returns-in_err-put_numbered
returns-in_err-put_numbered g c =
    let header = rw c.from.ensures at c.in_err-put_numbered.ensures in
    puts_less _ _ _ _ _ _ header c.from_residual.ensures.1

pub returns-in_err-put_numbered-2 : goal.returns-in_err-put_numbered-2
returns-in_err-put_numbered-2 g c =
    let header = rw c.from.ensures at c.in_ok-put_numbered.ensures in
    let size = rw c.from-2.ensures at c.in_err-put_numbered-2.ensures in
    puts_then _ _ _ _ _ _ header (puts_less _ _ _ _ _ _ size c.from_residual-in_err-put_numbered-2.ensures.1)

pub returns : goal.returns
returns g c =
    let header = rw c.from.ensures at c.in_ok-put_numbered.ensures in
    let size = rw c.from-2.ensures at c.in_ok-put_numbered-2.ensures in
    puts_then _ _ _ _ _ _ header (puts_then _ _ _ _ _ _ size c.put_outside.ensures)
