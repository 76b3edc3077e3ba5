use Rattle.s161_base.proofs.Plain.{detail, head, why}
use Rattle.s161_base.proofs.laws.faults_stay_on_a_line.Goals as goal

pub returns-clause-head : goal.returns-clause-head
returns-clause-head c = head

pub returns-clause-explanation : goal.returns-clause-explanation
returns-clause-explanation c = why

pub returns-clause-detail : goal.returns-clause-detail
returns-clause-detail c = detail
