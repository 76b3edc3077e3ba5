use Rattle.std.proofs.Common.{◌-◌, ◌≤◌, ◌<◌, ℕ, length}
use Rattle.std.specs.List.{slice_index_or}
use Rattle.m161_asm.specs.declared.ground.AddressRun.{AddressRun}
use Rattle.m161_asm.proofs.ground.first_above.Given as goal

abbrev pub invariant-loop-low : goal.invariant-loop-low
invariant-loop-low l =
    record {
      within : (l.low ≤ l.high) × (l.high ≤ length l.runs);
      below : (i : ℕ) (d : AddressRun) → i < l.low → (slice_index_or l.runs i d).end ≤ l.start;
      above : (i : ℕ) (d : AddressRun) → l.high ≤ i → i < length l.runs
          → l.start < (slice_index_or l.runs i d).end;
    }

abbrev pub decreases-loop-low : goal.decreases-loop-low
decreases-loop-low l = l.high - l.low
