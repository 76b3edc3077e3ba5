use Rattle.std.proofs.Common.{arith}
use Rattle.m161_asm.proofs.Grounds.{below_middle, above_middle, splits_by}
use Rattle.m161_asm.proofs.ground.first_above.Goals as goal

pub loop-low-preserved-then-runs-middle : goal.loop-low-preserved-then-runs-middle
loop-low-preserved-then-runs-middle c =
    record {
      within = (omega arith, omega arith);
      below =
          λ i d h. below_middle c.args.runs.now c.args.start _ i d _ c.requires
          (omega arith) c.if-runs-middle.true h;
      above = c.loop-low.invariant.above;
    }

pub loop-low-preserved : goal.loop-low-preserved
loop-low-preserved c =
    record {
      within = (omega arith, omega arith);
      below = c.loop-low.invariant.below;
      above =
          λ i d h k. above_middle c.args.runs.now c.args.start _ i d _ c.requires
          c.if-runs-middle.false h k;
    }

pub returns : goal.returns
returns c =
    splits_by c.args.runs.now c.args.start c.loop-low.low (record { start = 0; end = 0 })
    (omega arith)
    (λ i h. c.loop-low.invariant.below i _ h)
    (λ i h k. c.loop-low.invariant.above i _ (omega (arith, h)) k)
