use Rattle.s161_base.proofs.Putting.{some_told}
use Rattle.s161_base.proofs.report.report.Goals as goal

pub returns-clause-line : goal.returns-clause-line
returns-clause-line g c = some_told _ _ _ _ c.tell.ensures.ok c.tell.ensures.err
