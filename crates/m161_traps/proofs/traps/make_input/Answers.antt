use Rattle.std.proofs.Common.{arith}
use Rattle.m161_traps.proofs.Counting.{one_more}
use Rattle.m161_traps.proofs.traps.make_input.Goals as goal

pub returns-in-Ok-clause-more : goal.returns-in-Ok-clause-more
returns-in-Ok-clause-more g c =
    let made = one_more c.args.core.now.state c.event.new.self.state c.args.event c.in-Ok._outcome c.in-Ok.ensures.makes in omega (arith, made)
