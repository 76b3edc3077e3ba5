use Rattle.m161_drive.proofs.Moved.{first_left}
use Rattle.m161_drive.proofs.ranking.take_out_of.Goals as goal

pub returns-then-place-count-clause-value : goal.returns-then-place-count-clause-value
returns-then-place-count-clause-value c =
    first_left c.args.numbers.now c.take_out.new.numbers c.args.count c.args.place c.told-numbers c.requires.count
    c.if-place-count.true c.take_out.ensures.value
