use Rattle.std.proofs.Common.{◌≡◌, ◌+◌, ◌-◌, ◌≤◌, false, replicate, length}
use Rattle.m161_machine.specs.declared.event.Event.TheVariants.{Step}
use Rattle.m161_machine.specs.History.{Continues}
use Rattle.m161_machine.proofs.machine.Machine.steps_until_off.Given as goal

abbrev pub invariant-loop-made : goal.invariant-loop-made
invariant-loop-made g l = Continues l.fn.self (replicate l.made (Step l.p)) l.self
    × (l.self.state.made ≡ l.fn.self.state.made + l.made)
    × (length l.self.state.processors ≡ length l.fn.self.state.processors)
    × (l.self.start ≡ l.fn.self.start)
    × (l.self.state.board.off ≡ false)
    × (l.made ≤ l.most)

abbrev pub decreases-loop-made : goal.decreases-loop-made
decreases-loop-made g l = l.most - l.made
