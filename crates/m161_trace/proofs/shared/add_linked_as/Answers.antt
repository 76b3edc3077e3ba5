use Rattle.m161_trace.proofs.Spaced.{one_ok}
use Rattle.m161_trace.proofs.shared.add_linked_as.Goals as goal

pub returns-in-None : goal.returns-in-None
returns-in-None c = rw c.in-None.is (one_ok _ _ _ _ c.push_linked.ensures)

pub returns-in-Some : goal.returns-in-Some
returns-in-Some c = rw c.in-Some.is (c.add_changed_link.ensures)
