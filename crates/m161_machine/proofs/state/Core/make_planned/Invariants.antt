use Rattle.std.proofs.Common.{◌≡◌, ◌+◌, ◌-◌, ◌≤◌, false, length}
use Rattle.m161_machine.specs.State.{KeepsSizes}
use Rattle.m161_machine.specs.helpers.Stretch.{IsUnderWay}
use Rattle.m161_machine.proofs.state.Core.make_planned.Given as goal

-- the Steps so far are those of the first places, and their entries stand there
abbrev pub invariant-loop-made : goal.invariant-loop-made
invariant-loop-made g l = IsUnderWay l.stretch l.fn.kept l.fn.self.state l.made l.kept l.self.state
    × KeepsSizes l.fn.self.state l.self.state
    × (l.self.state.made ≡ l.fn.self.state.made + l.made)
    × (l.self.state.board.off ≡ false)
    × (l.made ≤ length l.kept)
    × (l.self.room ≡ l.fn.self.room)

abbrev pub decreases-loop-made : goal.decreases-loop-made
decreases-loop-made g l = length l.kept - l.made
