use Rattle.m161_trace.proofs.Spaced.{one_in_ok, spaced_none}
use Rattle.m161_trace.proofs.shared.add_stored_as.Goals as goal

pub returns-in-None : goal.returns-in-None
returns-in-None c = rw c.in-None.is (spaced_none _ c.args.style.now)

pub returns-in-Some : goal.returns-in-Some
returns-in-Some c = rw c.in-Some.is (one_in_ok _ c.args.style.now _ _ _ c.push_stored.ensures)
