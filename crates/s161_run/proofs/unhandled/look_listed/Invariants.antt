use Rattle.std.proofs.Common.{◌≡◌, ◌-◌, ◌<◌, ◌≤◌, None, drop, take}
use Rattle.m161_traps.specs.Traps.{state_after}
use Rattle.m161_traps.specs.Unhandled.{first_unhandled}
use Rattle.s161_run.proofs.unhandled.look_listed.Given as goal

-- so many of the events were made, and no trap was found
abbrev pub invariant-loop-made : goal.invariant-loop-made
invariant-loop-made l = record {
  few : l.made ≤ l.n;
  none : first_unhandled l.spans l.fn.core.state (take l.made l.events) ≡ None;
  at : l.core.state ≡ state_after l.fn.core.state (take l.made l.events);
  left : l.made < l.n → l.left ≡ drop l.made l.events;
}

abbrev pub decreases-loop-made : goal.decreases-loop-made
decreases-loop-made l = l.n - l.made
