use Rattle.std.proofs.Common.{◌≡◌, ◌≤◌, drop, length}
use Rattle.s161_run.proofs.Making.{Making}
use Rattle.s161_run.proofs.events.make_events.Given as goal

-- the events so far are made, and none has switched the machine off
abbrev pub invariant-loop-event : goal.invariant-loop-event
invariant-loop-event g l = Making g.N.Notes.has l.fn.core.state l.fn.notes l.events l.made l.core.state l.notes
    × (l.core.state.board.off ≡ l.fn.core.state.board.off)
    × (l.made ≤ length l.events)
    × (l.left ≡ drop l.made l.events)
    × (length l.entries ≡ 256)
