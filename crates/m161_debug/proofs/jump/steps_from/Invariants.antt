use Rattle.std.proofs.Common.{◌≡◌, ◌<◌, ◌≤◌, ◌-◌, drop, replicate, take}
use Rattle.m161_machine.specs.History.{events_of}
use Rattle.m161_machine.specs.declared.event.Event.TheVariants.{Step}
use Rattle.m161_debug.proofs.jump.steps_from.Given as goal

-- the entries so far are of Steps of the processor
abbrev pub invariant-loop-last : goal.invariant-loop-last
invariant-loop-last g l = record {
  steps : take (l.last - l.first) (drop l.first (events_of l.past.log)) ≡ replicate (l.last - l.first) (Step l.p);
  some : l.first < l.last;
  within : l.last ≤ l.end;
}

abbrev pub decreases-loop-last : goal.decreases-loop-last
decreases-loop-last g l = l.end - l.last
