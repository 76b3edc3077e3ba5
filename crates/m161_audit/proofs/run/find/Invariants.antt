use Rattle.std.proofs.Common.{◌≡◌, ◌++◌, List, length}
use Rattle.m161_machine.specs.declared.event.Event.{Event}
use Rattle.m161_machine.specs.StoreHistory.{StoreState}
use Rattle.m161_audit.specs.declared.watch.Watch.{Watch}
use Rattle.m161_audit.specs.Tracking.{IsAt}
use Rattle.m161_audit.specs.helpers.Run.{Passes}
use Rattle.m161_audit.proofs.run.find.Given as goal

-- the events so far are made, and none is a stale use
abbrev pub invariant-loop-event : goal.invariant-loop-event
invariant-loop-event g l =
    (before : List Event) × (l.events ≡ before ++ l.left) × (l.done ≡ length before)
    × ((watches : List Watch) (s : StoreState) → IsAt watches s l.fn.core.state l.fn.shootdowns
    → Passes watches s before l.core.state l.shootdowns)
