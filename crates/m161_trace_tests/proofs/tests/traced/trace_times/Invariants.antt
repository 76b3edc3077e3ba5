use Rattle.std.proofs.Common.{◌≡◌}
use Rattle.m161_trace_tests.proofs.tests.traced.trace_times.Given as goal

-- the tracer is at the machine's state
abbrev pub invariant-loop-time : goal.invariant-loop-time
invariant-loop-time l = l.tracer ≡ l.machine.state
