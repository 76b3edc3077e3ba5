use Rattle.m161_trace.proofs.Spaced.{spaced_none}
use Rattle.m161_trace.proofs.shared.add_unlinked_by.Goals as goal

pub returns-in-None : goal.returns-in-None
returns-in-None c = rw c.in-None.is (spaced_none _)

pub returns-in-Some : goal.returns-in-Some
returns-in-Some c = rw c.in-Some.is (c.add_ended.ensures)
