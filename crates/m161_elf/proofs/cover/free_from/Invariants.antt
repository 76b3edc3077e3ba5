use Rattle.std.proofs.Common.{◌≡◌, ℕ, ◌-◌, ◌<◌, ◌≤◌, true, length}
use Rattle.m161_elf.specs.helpers.Cover.{is_taken, IsCover}
use Rattle.m161_elf.proofs.cover.free_from.Given as goal

abbrev pub invariant-loop-next : goal.invariant-loop-next
invariant-loop-next l = record {
  cover : IsCover l.next;
  same : (i : ℕ) → i < length l.next → is_taken l.next i ≡ is_taken l.fn.next i;
  skipped : (i : ℕ) → l.from ≤ i → i < l.at → is_taken l.fn.next i ≡ true;
  from : l.from ≤ l.at;
  within : l.at < length l.next;
}

abbrev pub decreases-loop-next : goal.decreases-loop-next
decreases-loop-next l = length l.next - l.at
