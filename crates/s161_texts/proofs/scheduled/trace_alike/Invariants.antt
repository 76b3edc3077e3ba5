use Rattle.s161_texts.proofs.Scheduling.{Alike}
use Rattle.s161_texts.proofs.scheduled.trace_alike.Given as goal

-- the event was made so often, and its lines are put out
abbrev pub invariant-loop-made : goal.invariant-loop-made
invariant-loop-made g l =
    Alike l.fn.lines (g.O.Write.contents l.fn.output) l.event l.made l.machine.state l.lines (g.O.Write.contents l.output)
