use Rattle.std.proofs.Common.{rules}
use Rattle.m161_machine.proofs.Unfolding.{lengthened}
use Rattle.m161_machine.proofs.events.lengthen_last.Goals as goal

pub returns-in-Some-clause-added : goal.returns-in-Some-clause-added
returns-in-Some-clause-added c = λ added.
    let longer = c.lengthen.ensures.added added in
    lengthened c.args.runs.now.items _ c.in-Some.last.now c.args.more.now c.lengthen.new.self (search rules) (search rules) longer.0 longer.1
