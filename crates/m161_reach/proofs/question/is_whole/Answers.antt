use Rattle.std.proofs.Common.{refl, sym, arith}
use Rattle.m161_reach.proofs.Asking.{bytes_when}
use Rattle.m161_reach.proofs.question.is_whole.Goals as goal

pub returns : goal.returns
returns c =
    sym (bytes_when c.args.ram.now _ (λ i. omega (arith, c.type_inv.ram i)) refl)
