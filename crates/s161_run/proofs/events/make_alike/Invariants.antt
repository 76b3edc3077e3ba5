use Rattle.std.proofs.Common.{◌≡◌, ◌-◌, ◌≤◌, length}
use Rattle.s161_run.proofs.Making.{Again}
use Rattle.s161_run.proofs.events.make_alike.Given as goal

-- the event was made so often
abbrev pub invariant-loop-made : goal.invariant-loop-made
invariant-loop-made g l = Again g.N.Notes.has l.fn.core.state l.fn.notes l.event l.made l.core.state l.notes
    × (length l.entries ≡ length l.fn.entries) × (l.made ≤ l.times)

abbrev pub decreases-loop-made : goal.decreases-loop-made
decreases-loop-made g l = l.times - l.made
