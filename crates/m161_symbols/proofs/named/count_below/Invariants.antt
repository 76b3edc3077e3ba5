use Rattle.std.proofs.Common.{◌-◌, ◌≤◌, ◌<◌, ℕ, length}
use Rattle.std.specs.List.{slice_index_or}
use Rattle.m161_symbols.specs.declared.named.Place.{Place}
use Rattle.m161_symbols.proofs.named.count_below.Given as goal

abbrev pub invariant-loop-low : goal.invariant-loop-low
invariant-loop-low l = record {
  within : (l.low ≤ l.high) × (l.high ≤ length l.places);
  below : (i : ℕ) (d : Place) → i < l.low → (slice_index_or l.places i d).value < l.bound;
  above : (i : ℕ) (d : Place) → l.high ≤ i → i < length l.places
      → l.bound ≤ (slice_index_or l.places i d).value;
}

abbrev pub decreases-loop-low : goal.decreases-loop-low
decreases-loop-low l = l.high - l.low
