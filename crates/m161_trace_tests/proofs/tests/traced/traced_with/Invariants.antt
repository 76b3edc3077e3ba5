use Rattle.std.proofs.Common.{◌≡◌}
use Rattle.m161_trace_tests.proofs.tests.traced.traced_with.Given as goal

-- the tracer is at the machine's state
abbrev pub invariant-loop-event : goal.invariant-loop-event
invariant-loop-event g l = l.tracer ≡ l.machine.state
