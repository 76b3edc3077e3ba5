use Rattle.std.proofs.Common.{◌≡◌, None}
use Rattle.std.specs.Prelude.{replicate}
use Rattle.m161_traps.specs.Traps.{state_after}
use Rattle.m161_traps.specs.Unhandled.{first_unhandled}
use Rattle.s161_run.proofs.unhandled.look_alike.Given as goal

-- the event was made so many times, and no trap was found
abbrev pub invariant-loop-time : goal.invariant-loop-time
invariant-loop-time l = record {
  none : first_unhandled l.spans l.fn.core.state (replicate l._time l.event) ≡ None;
  at : l.core.state ≡ state_after l.fn.core.state (replicate l._time l.event);
}
