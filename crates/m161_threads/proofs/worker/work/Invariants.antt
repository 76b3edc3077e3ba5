use Rattle.std.proofs.Common.{◌≡◌, ◌+◌, ◌-◌, ◌≤◌}
use Rattle.m161_threads.proofs.worker.work.Given as goal

abbrev pub invariant-loop-made : goal.invariant-loop-made
invariant-loop-made g l = record {
  processor_is : l.seat.processor ≡ l.initial.seat.processor;
  counted : l.seat.count ≡ l.initial.seat.count + l.made;
  within : l.made ≤ l.quota;
}

abbrev pub decreases-loop-made : goal.decreases-loop-made
decreases-loop-made g l = l.quota - l.made
