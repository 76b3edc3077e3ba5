use Rattle.std.proofs.Common.{take}
use Rattle.m161_traps.specs.helpers.Counting.{AreTold, Passes}
use Rattle.std.proofs.Common.{[]}
use Rattle.m161_traps.proofs.traps.find_traps.Given as goal

-- the events so far were made
abbrev pub invariant-loop-event : goal.invariant-loop-event
invariant-loop-event g l = record {
  passes : Passes l.fn.core.state (take l.event-index l.events) [] l.core.state l.lines.items;
  told : AreTold l.core.state.made l.lines.items;
}
