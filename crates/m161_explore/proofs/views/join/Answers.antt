use Rattle.m161_explore.proofs.Pieces.{joined_more}
use Rattle.m161_explore.proofs.views.join.Goals as goal

pub loop-at-preserved : goal.loop-at-preserved
loop-at-preserved c =
    let more = joined_more c.args.pieces.now c.args.numbers.now c.loop-at.at c.loop-at-test.true in
    cc (c.in_ok-extend_from_slice.ensures.items, c.get.ensures, c.loop-at.invariant)
