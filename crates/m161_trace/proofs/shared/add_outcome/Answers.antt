use Rattle.m161_trace.proofs.Spaced.{one_ok, spaced_none}
use Rattle.m161_trace.proofs.shared.add_outcome.Goals as goal

pub returns-in-Ran : goal.returns-in-Ran
returns-in-Ran c = rw c.in-Ran.is (spaced_none _)

pub returns-in-Taken : goal.returns-in-Taken
returns-in-Taken c = rw c.in-Taken.is (spaced_none _)

pub returns-in-Trapped : goal.returns-in-Trapped
returns-in-Trapped c = rw c.in-Trapped.is (one_ok _ _ _ _ c.push_trapped.ensures)

pub returns-in-Idle : goal.returns-in-Idle
returns-in-Idle c = rw c.in-Idle.is (one_ok _ _ _ _ c.push_idle.ensures)

pub returns-in-PoweredOff : goal.returns-in-PoweredOff
returns-in-PoweredOff c = rw c.in-PoweredOff.is (one_ok _ _ _ _ c.push_off.ensures)

pub returns-in-Conflict : goal.returns-in-Conflict
returns-in-Conflict c = rw c.in-Conflict.is (one_ok _ _ _ _ c.push_conflict.ensures)
