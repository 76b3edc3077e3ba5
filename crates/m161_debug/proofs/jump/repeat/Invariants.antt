use Rattle.std.proofs.Common.{◌≤◌, ◌-◌, drop, take}
use Rattle.m161_machine.specs.History.{Continues, Leads, events_of}
use Rattle.m161_debug.proofs.jump.repeat.Given as goal

-- the events so far are made again, and the rest of the log leads on from there
abbrev pub invariant-loop-made : goal.invariant-loop-made
invariant-loop-made g l = record {
  again : Continues l.initial.again (take l.made (events_of l.past.log)) l.again;
  rest : Leads l.again.state (drop l.made l.past.log) l.past.state;
  within : l.made ≤ l.number;
}

abbrev pub decreases-loop-made : goal.decreases-loop-made
decreases-loop-made g l = l.number - l.made
