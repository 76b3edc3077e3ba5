use Rattle.std.proofs.Common.{◌≡◌, ◌≤◌, ◌++◌, List, length}
use Rattle.std.specs.Prelude.{slice_get}
use Rattle.m161_machine.specs.declared.event.Entry.{Entry}
use Rattle.m161_machine.specs.History.{events_of}
use Rattle.m161_places.specs.Going.{Passes}
use Rattle.m161_places.proofs.going.advance.Given as goal

-- the events so far pass so many places
abbrev pub invariant-loop : goal.invariant-loop
invariant-loop g l =
    (es : List Entry) × Passes l.policy (slice_get l.policy.keys) l.fn.cursor l.fn.core.state es l.cursor l.core.state l.passed
    × (length es ≤ l.counter) × (l.passed ≤ l.places) × (l.events.items ≡ l.fn.events.items ++ events_of es)
