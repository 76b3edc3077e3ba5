use Rattle.std.proofs.Common.{List, replicate}
use Rattle.m161_machine.specs.declared.event.Event.TheVariants.{Step}
use Rattle.m161_machine.specs.StoreHistory.{StoreState}
use Rattle.m161_audit.specs.declared.watch.Watch.{Watch}
use Rattle.m161_audit.specs.Tracking.{IsAt}
use Rattle.m161_audit.specs.helpers.Run.{Passes}
use Rattle.m161_audit.proofs.run.audit_steps.Given as goal

-- the Steps so far are made, and none is a stale use
abbrev pub invariant-loop-made : goal.invariant-loop-made
invariant-loop-made g l =
    (watches : List Watch) (s : StoreState) → IsAt watches s l.fn.core.state l.fn.shootdowns
    → Passes watches s (replicate l.made (Step l.p)) l.core.state l.shootdowns
