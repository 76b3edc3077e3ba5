use Rattle.std.proofs.Common.{◌≡◌, ◌-◌}
use Rattle.std.specs.Prelude.{string_bytes}
use Rattle.m161_machine.specs.History.{boot_state, events_of}
use Rattle.m161_replay.specs.Replays.{state_at}
use Rattle.s161_debug.proofs.Lasting.{lines_from}
use Rattle.s161_debug.proofs.last.lines.Given as goal

-- the events before this one were made, and the last of them have their lines
abbrev pub invariant-loop-i : goal.invariant-loop-i
invariant-loop-i l = record {
  text : string_bytes l.text ≡ lines_from l.style (boot_state l.machine.start) (events_of l.machine.log) l.first (l.i - l.first);
  here : l.before.state ≡ state_at (boot_state l.machine.start) (events_of l.machine.log) l.i;
  same : l.behind.state ≡ l.before.state;
}
