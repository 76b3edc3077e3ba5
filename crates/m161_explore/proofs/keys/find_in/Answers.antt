use Rattle.std.proofs.Common.{arith}
use Rattle.m161_explore.proofs.Parts.{length-parts}
use Rattle.m161_explore.proofs.keys.find_in.Goals as goal

pub part-requires-clause-within : goal.part-requires-clause-within
part-requires-clause-within c =
    let n = length-parts c.args.cuts.now c.args.words.now in
    omega (arith, n, c.loop-next.invariant.within, c.loop-next-test.true)
