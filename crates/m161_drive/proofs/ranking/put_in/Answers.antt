use Rattle.std.proofs.Common.{◌∙◌, ap, slice_set}
use Rattle.m161_drive.proofs.Moved.{written_in}
use Rattle.m161_drive.proofs.ranking.put_in.Goals as goal

pub returns-clause-value : goal.returns-clause-value
returns-clause-value c =
    ap (λ xs. slice_set xs c.args.place c.args.number) c.copy_within.ensures.after
    ∙ written_in c.args.numbers.now c.args.place c.args.number c.told-numbers c.requires
