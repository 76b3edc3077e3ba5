use Rattle.std.proofs.Common.{arith, refl}
use Rattle.m161_explore.proofs.Spreading.{spread_one, unset-set}
use Rattle.m161_explore.proofs.ends.spread.Goals as goal

pub loop-from-preserved-then-needs_flag : goal.loop-from-preserved-then-needs_flag
loop-from-preserved-then-needs_flag c =
    let y = c.if-needs_flag.ensures.yes refl in
    let less = unset-set c.loop-from.flags _ (omega arith) (c.if-needs_flag.ensures.unset refl) in
    record {
      spreads = spread_one _ _ _ _ _ y.0 y.1 c.loop-from.invariant.spreads (omega arith) y.2 y.3 y.4;
      no_more = omega (arith, less, c.loop-from.invariant.no_more);
      fewer = λ e. omega (arith, less, c.loop-from.invariant.no_more);
      settled = λ e. absurd (cc);
    }
