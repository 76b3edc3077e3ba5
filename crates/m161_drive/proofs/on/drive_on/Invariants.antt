use Rattle.std.proofs.Common.{◌≡◌, ◌-◌, ◌≤◌, length}
use Rattle.m161_drive.proofs.Continuing.{Continuing}
use Rattle.m161_drive.proofs.on.drive_on.Given as goal

-- the events so far are chosen and made, and noted
abbrev pub invariant-loop-made : goal.invariant-loop-made
invariant-loop-made g l = Continuing g.N.Notes.has l.policy l.fn.cursor l.fn.core.state l.fn.notes l.made l.on l.core.state l.notes
    × (length l.entries ≡ 64) × (l.made ≤ l.n)

abbrev pub decreases-loop-made : goal.decreases-loop-made
decreases-loop-made g l = l.n - l.made
