use Rattle.std.proofs.Common.{take}
use Rattle.m161_reach.specs.helpers.Walk.{GoesOnBelow, LeadsTo}
use Rattle.m161_reach.proofs.walk.walk_along.Given as goal

abbrev pub invariant-loop-event : goal.invariant-loop-event
invariant-loop-event g l = record {
  leads : LeadsTo l.machines (take l.event-index l.events) l.place;
  goes_on : GoesOnBelow l.machines l.events l.event-index;
}
