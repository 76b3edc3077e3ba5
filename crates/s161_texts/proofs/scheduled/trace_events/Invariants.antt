use Rattle.std.proofs.Common.{◌≡◌, ◌≤◌, drop, length}
use Rattle.s161_texts.proofs.Scheduling.{Made}
use Rattle.s161_texts.proofs.scheduled.trace_events.Given as goal

-- the events so far are made, none has switched the machine off, and their lines are put out
abbrev pub invariant-loop-event : goal.invariant-loop-event
invariant-loop-event g l =
    Made l.fn.lines (g.O.Write.contents l.fn.output) l.events l.made l.machine.state l.lines (g.O.Write.contents l.output)
    × (l.machine.state.board.off ≡ l.fn.machine.state.board.off)
    × (l.made ≤ length l.events)
    × (l.left ≡ drop l.made l.events)
