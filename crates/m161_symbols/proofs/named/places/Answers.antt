use Rattle.std.proofs.Common.{arith}
use Rattle.m161_symbols.proofs.Listed.{one_place, all_placed}
use Rattle.m161_symbols.proofs.named.places.Goals as goal

pub loop-number-preserved : goal.loop-number-preserved
loop-number-preserved c =
    rw c.in_ok-push.ensures.items
    (one_place c.args.symbols.now c.index-symbols-number.result _ _ _ c.loop-number-test.true
    c.index-symbols-number.is c.loop-number.invariant)

pub returns : goal.returns
returns c =
    all_placed c.args.symbols.now _ _ _ (omega (arith, c.loop-number-test.false))
    c.loop-number.invariant
