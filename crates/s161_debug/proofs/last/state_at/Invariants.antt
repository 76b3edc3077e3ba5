use Rattle.std.proofs.Common.{◌≡◌}
use Rattle.m161_machine.specs.History.{boot_state, events_of}
use Rattle.m161_replay.specs.Replays.{state_at}
use Rattle.s161_debug.proofs.last.state_at.Given as goal

-- the events before this one were made
abbrev pub invariant-loop-i : goal.invariant-loop-i
invariant-loop-i l = l.core.state ≡ state_at (boot_state l.machine.start) (events_of l.machine.log) l.i
