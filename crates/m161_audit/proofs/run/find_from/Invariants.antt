use Rattle.std.proofs.Common.{List, take}
use Rattle.m161_machine.specs.StoreHistory.{StoreState}
use Rattle.m161_audit.specs.declared.watch.Watch.{Watch}
use Rattle.m161_audit.specs.helpers.Run.{Passes}
use Rattle.m161_audit.proofs.run.find_from.Given as goal

-- the events so far are made, and none is a stale use
abbrev pub invariant-loop-place : goal.invariant-loop-place
invariant-loop-place g l =
    (watches : List Watch) (s : StoreState) → Passes watches s (take l.from l.events) l.fn.core.state l.fn.shootdowns
    → Passes watches s (take l.place l.events) l.core.state l.shootdowns
