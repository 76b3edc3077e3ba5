use Rattle.std.proofs.Common.{◌≡◌, ◌≤◌, ◌*◌, ◌-◌, ◌^◌, take}
use Rattle.std.specs.Prelude.{sum}
use Rattle.m161_threads.proofs.tally.total.Given as goal

abbrev pub invariant-loop-i : goal.invariant-loop-i
invariant-loop-i l = record {
  total : l.total ≡ sum (take l.i l.counts);
  small : l.total ≤ l.i * (2 ^ 32 - 1);
}
