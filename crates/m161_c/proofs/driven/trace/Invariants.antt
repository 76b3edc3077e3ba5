use Rattle.std.proofs.Common.{◌≡◌}
use Rattle.std.specs.Prelude.{string_bytes}
use Rattle.m161_c.proofs.Driving.{Tracing}
use Rattle.m161_c.proofs.driven.trace.Given as goal

-- the events so far are chosen and made, and their lines appended; the tracer is in the machine's state
abbrev pub invariant-loop-made : goal.invariant-loop-made
invariant-loop-made l =
    Tracing l.style l.loads l.policy l.fn.machine (string_bytes l.fn.text) l.made l.cursor l.machine (string_bytes l.text)
    × (l.tracer ≡ l.machine.state)
