use Rattle.std.proofs.Common.{◌∙◌, ap, take}
use Rattle.m161_drive.proofs.Moved.{taken_out}
use Rattle.m161_drive.proofs.ranking.take_out.Goals as goal

pub returns-clause-value : goal.returns-clause-value
returns-clause-value c =
    ap (take 31) c.copy_within.ensures.after ∙ taken_out c.args.numbers.now c.args.place c.told-numbers c.requires
