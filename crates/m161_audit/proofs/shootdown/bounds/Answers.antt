use Rattle.std.proofs.Common.{arith, subst}
use Rattle.std.proofs.lemmas.List.{take_all}
use Rattle.std.specs.Prelude.{All}
use Rattle.m161_audit.specs.helpers.Progress.{IsWithin}
use Rattle.m161_audit.proofs.Walked.{bounds_next}
use Rattle.m161_audit.proofs.shootdown.bounds.Goals as goal

pub loop-item-preserved : goal.loop-item-preserved
loop-item-preserved c =
    bounds_next c.args.items.now c.loop-item.item-index c.loop-item.low c.loop-item.high c.widened.result.0 c.widened.result.1 _ (omega arith) c.loop-item.invariant c.widened.ensures.wider c.widened.ensures.within

pub returns : goal.returns
returns c = subst (All (IsWithin c.loop-item.low c.loop-item.high)) (take_all c.loop-item.item-index c.args.items.now (omega arith)) c.loop-item.invariant
