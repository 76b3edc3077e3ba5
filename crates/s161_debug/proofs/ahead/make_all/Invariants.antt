use Rattle.std.proofs.Common.{◌≡◌}
use Rattle.s161_debug.proofs.Going.{MadeSome}
use Rattle.s161_debug.proofs.ahead.make_all.Given as goal

-- the events before this place were made
abbrev pub invariant-loop-k : goal.invariant-loop-k
invariant-loop-k l = record {
  made : MadeSome l.initial.session.machine l.events l.k l.session.machine;
  breakpoints : l.session.breakpoints ≡ l.initial.session.breakpoints;
  style : l.session.style ≡ l.initial.session.style;
}
