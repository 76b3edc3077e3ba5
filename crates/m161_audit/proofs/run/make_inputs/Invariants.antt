use Rattle.std.proofs.Common.{List, replicate}
use Rattle.m161_machine.specs.StoreHistory.{StoreState}
use Rattle.m161_audit.specs.declared.shootdown.Shootdown.{Shootdown}
use Rattle.m161_audit.specs.declared.watch.Watch.{Watch}
use Rattle.m161_audit.specs.Tracking.{IsAt}
use Rattle.m161_audit.specs.helpers.Run.{Passes}
use Rattle.m161_audit.proofs.run.make_inputs.Given as goal

-- the inputs so far are made
abbrev pub invariant-loop-made : goal.invariant-loop-made
invariant-loop-made g l =
    (watches : List Watch) (s : StoreState) (items : List Shootdown) → IsAt watches s l.fn.core.state items
    → Passes watches s (replicate l.made l.event) l.core.state items
