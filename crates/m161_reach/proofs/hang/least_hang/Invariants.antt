use Rattle.std.proofs.Common.{ℕ, ◌-◌, ◌<◌, ◌≤◌, length, take}
use Rattle.m161_reach.specs.From.{asked_of}
use Rattle.m161_reach.specs.Hangs.{IsFreeAt, IsHungAt}
use Rattle.m161_reach.proofs.hang.least_hang.Given as goal

abbrev pub invariant-loop-low : goal.invariant-loop-low
invariant-loop-low g l = record {
  ordered : l.low ≤ l.high;
  within : l.high ≤ length l.events;
  hangs : IsHungAt (asked_of l.boot.state l.goal) l.limit (take l.high l.events);
  free : (k : ℕ) → k < l.low → IsFreeAt (asked_of l.boot.state l.goal) l.limit (take k l.events);
}

abbrev pub decreases-loop-low : goal.decreases-loop-low
decreases-loop-low g l = l.high - l.low
