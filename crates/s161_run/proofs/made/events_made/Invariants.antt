use Rattle.std.proofs.Common.{◌≡◌}
use Rattle.std.specs.Prelude.{take}
use Rattle.m161_machine.specs.History.{events_of}
use Rattle.s161_run.proofs.made.events_made.Given as goal

-- the events of the entries so far
abbrev pub invariant-loop-entry : goal.invariant-loop-entry
invariant-loop-entry l = l.events.items ≡ events_of (take l.entry-index l.entries)
