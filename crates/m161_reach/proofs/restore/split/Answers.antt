use Rattle.m161_reach.proofs.Splitting.{split_is}
use Rattle.m161_reach.proofs.restore.split.Goals as goal

pub returns : goal.returns
returns c = λ a b size is. split_is a b c.args.words.now c.args.number size is
