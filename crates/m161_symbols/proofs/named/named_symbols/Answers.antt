use Rattle.std.proofs.Common.{refl, arith}
use Rattle.m161_symbols.proofs.Listed.{one_named, all_named}
use Rattle.m161_symbols.proofs.named.named_symbols.Goals as goal

pub loop-symbol-preserved : goal.loop-symbol-preserved
loop-symbol-preserved c =
    one_named c.args.file.now c.args.listed.now _ _ _ _ _ c.loop-symbol-test.true
    c.in_ok-push.ensures.items c.in_ok-name.ensures refl c.loop-symbol.invariant

pub returns : goal.returns
returns c =
    all_named c.args.file.now c.args.listed.now _ _ (omega (arith, c.loop-symbol-test.false))
    c.loop-symbol.invariant
