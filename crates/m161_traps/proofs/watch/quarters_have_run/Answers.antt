use Rattle.std.proofs.Common.{◌+◌, ◌*◌, arith}
use Rattle.m161_traps.proofs.Lasting.{both_true, quarters_all, quarters_more, ran_at}
use Rattle.m161_traps.proofs.watch.quarters_have_run.Goals as goal

pub loop-k-preserved : goal.loop-k-preserved
loop-k-preserved c =
    let es = c.args.entries.now in
    let q = c.args.quarter in
    let k = c.loop-k.k in
    λ both.
    let parts = both_true c.loop-k.all c.four_have_run-all.result both in
    let four = c.four_have_run-all.ensures parts.1 in
    quarters_more es q k (c.loop-k.invariant parts.0)
    (ran_at es k c.index-entries-k.result c.index-entries-k.is four.0)
    (ran_at es (q + k) c.index-entries-quarter.result c.index-entries-quarter.is four.1)
    (ran_at es (2 * q + k) c.index-entries-quarter-in-loop-k.result c.index-entries-quarter-in-loop-k.is four.2)
    (ran_at es (3 * q + k) c.index-entries-quarter-in-loop-k-2.result c.index-entries-quarter-in-loop-k-2.is four.3)

pub returns : goal.returns
returns c =
    let end = c.loop-k-test.false in
    λ all. quarters_all c.args.entries.now c.args.quarter (λ k low. c.loop-k.invariant all k (omega (arith, low, end)))
