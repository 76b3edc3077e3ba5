use Rattle.std.proofs.Common.{◌≡◌, ◌+◌, drop}
use Rattle.m161_shorten.specs.helpers.Ranges.{leading}
use Rattle.m161_shorten.proofs.ranges.leading.Given as goal

abbrev pub invariant-loop-k : goal.invariant-loop-k
invariant-loop-k l = leading l.p l.events ≡ l.k + leading l.p (drop l.k l.events)
