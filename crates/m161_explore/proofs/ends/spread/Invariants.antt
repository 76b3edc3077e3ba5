use Rattle.std.proofs.Common.{◌≡◌, ℕ, ◌<◌, ◌≤◌, length, true, false}
use Rattle.m161_explore.specs.helpers.Ends.{Spreads, IsSettledAt, unset}
use Rattle.m161_explore.proofs.ends.spread.Given as goal

abbrev pub invariant-loop-from : goal.invariant-loop-from
invariant-loop-from l = record {
  spreads : Spreads l.width l.links l.initial.flags l.flags;
  no_more : unset l.flags ≤ unset l.initial.flags;
  fewer : l.changed ≡ true → unset l.flags < unset l.initial.flags;
  settled : l.changed ≡ false → (a : ℕ) → l.from ≤ a → a < length l.flags → IsSettledAt l.width l.links l.flags a;
}
