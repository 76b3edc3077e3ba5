use Rattle.std.proofs.Common.{◌∙◌, sym}
use Rattle.m161_refusals.proofs.Passing.{told_first, told_more}
use Rattle.m161_refusals.proofs.refusals.with_one.Goals as goal

pub returns-in-None-clause-more : goal.returns-in-None-clause-more
returns-in-None-clause-more c = λ rs told. told_first rs c.args.place c.args.refusal (sym c.in-None.is ∙ told)

pub returns-in-Some-clause-more : goal.returns-in-Some-clause-more
returns-in-Some-clause-more c = λ rs told. told_more rs c.args.place c.args.refusal c.in-Some.told (sym c.in-Some.is ∙ told)
