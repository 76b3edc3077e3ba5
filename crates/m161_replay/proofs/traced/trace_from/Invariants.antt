use Rattle.std.proofs.Common.{◌≡◌, ◌++◌, drop}
use Rattle.std.specs.Prelude.{string_bytes}
use Rattle.m161_replay.specs.Replays.{trace_from}
use Rattle.m161_replay.proofs.traced.trace_from.Given as goal

-- the text so far and the lines of the events that are left are those of all
abbrev pub invariant-loop-i : goal.invariant-loop-i
invariant-loop-i g l = record {
  text : string_bytes l.text ++ trace_from l.i l.before.state (drop l.i l.list) ≡ trace_from l.first l.initial.before.state (drop l.first l.list);
  same : l.behind.state ≡ l.before.state;
}
