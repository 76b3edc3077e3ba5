use Rattle.std.proofs.Common.{◌≡◌, ◌++◌, drop}
use Rattle.m161_machine.specs.History.{events_of}
use Rattle.m161_c.proofs.judged.events_of.Given as goal

-- the events so far, and those of the entries that are left
abbrev pub invariant-loop-entry : goal.invariant-loop-entry
invariant-loop-entry l = events_of l.entries ≡ l.events.items ++ events_of (drop l.entry-index l.entries)
