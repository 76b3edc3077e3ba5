use Rattle.std.proofs.Common.{◌≡◌, ◌+◌, ◌-◌, ◌≤◌, length, take}
use Rattle.m161_machine.specs.History.{Leads}
use Rattle.m161_machine.specs.History.{transfers_of}
use Rattle.m161_machine.proofs.state.Core.repeat.Given as goal

abbrev pub invariant-loop-made : goal.invariant-loop-made
invariant-loop-made g l = (l.entries ≡ l.fn.entries)
    × (l.made ≤ length l.entries)
    × Leads l.fn.self.state (take l.made l.fn.entries) l.self.state
    × (l.sent ≡ transfers_of (take l.made l.fn.entries))
    × (l.fn.self.room ≤ l.self.room + l.sent)

abbrev pub decreases-loop-made : goal.decreases-loop-made
decreases-loop-made g l = length l.entries - l.made
