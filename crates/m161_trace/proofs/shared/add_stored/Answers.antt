use Rattle.m161_trace.proofs.Spaced.{spaced_none}
use Rattle.m161_trace.proofs.shared.add_stored.Goals as goal

pub returns-in-None : goal.returns-in-None
returns-in-None g c = rw c.in-None.is (spaced_none _ c.args.style.now)

pub returns-in-Some : goal.returns-in-Some
returns-in-Some g c = rw c.in-Some.is c.add_stored_at.ensures
