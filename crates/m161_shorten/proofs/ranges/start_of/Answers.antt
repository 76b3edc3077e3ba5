use Rattle.std.proofs.Common.{◌≡◌, ◌+◌, sym, arith, subst}
use Rattle.m161_shorten.specs.helpers.Ranges.{IsStart}
use Rattle.m161_shorten.proofs.Starts.{start_first, start_more}
use Rattle.m161_shorten.proofs.ranges.start_of.Goals as goal

pub loop-init : goal.loop-init
loop-init c = start_first c.args.events.now

pub loop-preserved : goal.loop-preserved
loop-preserved c =
    subst (λ n. IsStart (c.loop.counter + 1) c.args.events.now n) (sym c.block_end-start.ensures.value) (start_more c.loop.counter c.args.events.now c.loop.start c.loop.invariant)

pub returns : goal.returns
returns c =
    let all : c.loop.counter ≡ c.args.block = omega arith in
    subst (λ i. IsStart i c.args.events.now c.loop.start) all c.loop.invariant
