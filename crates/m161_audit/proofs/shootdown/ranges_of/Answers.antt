use Rattle.std.proofs.Common.{arith, length, refl}
use Rattle.std.proofs.lemmas.List.Elements.{All-replicate}
use Rattle.m161_audit.specs.helpers.Progress.{IsAtMost}
use Rattle.m161_audit.proofs.Walked.{in_list}
use Rattle.m161_audit.proofs.Ranged.{ranges_kept, ranges_next}
use Rattle.m161_audit.proofs.shootdown.ranges_of.Goals.{then-has_gone_on, else-has_gone_on}
use Rattle.m161_audit.proofs.shootdown.ranges_of.Goals as goal

pub loop-i-init : goal.loop-i-init
loop-i-init c = (
  (λ i x less at over. absurd (omega (arith, less))),
  All-replicate (IsAtMost (length c.args.items.now)) 64 0 (omega arith),
  refl,
  refl,
)

pub loop-i-preserved : goal.loop-i-preserved
loop-i-preserved c = elim c.if-has_gone_on.branch [
  | then-has_gone_on w ↦ ranges_next c.args.items.now c.loop-i.firsts c.loop-i.pasts c.if-has_gone_on.firsts c.if-has_gone_on.pasts c.loop-i.i _ _ (omega arith) c.loop-i.invariant w.firsts-is w.pasts-is (omega (arith, w.min.ensures)) (omega (arith, w.min.ensures))
  | else-has_gone_on w ↦ ranges_kept c.args.items.now c.loop-i.firsts c.loop-i.pasts c.if-has_gone_on.firsts c.if-has_gone_on.pasts c.loop-i.i _ c.has_gone_on.result (omega arith) c.loop-i.invariant w.firsts-is w.pasts-is c.has_gone_on.ensures w.if-has_gone_on.false
]

pub returns-clause-ranges : goal.returns-clause-ranges
returns-clause-ranges c = λ i x at.
    let inside = in_list c.args.items.now i x at in
    c.loop-i.invariant.0 i x (omega (arith, inside)) at
