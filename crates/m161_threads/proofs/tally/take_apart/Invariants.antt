use Rattle.std.proofs.Common.{◌≡◌, ◌≤◌, ◌<◌, ◌++◌, ℕ, None, length, map, get_or}
use Rattle.std.specs.Prelude.{vec_capacity}
use Rattle.m161_threads.proofs.tally.take_apart.Given as goal

abbrev pub invariant-loop-worked : goal.invariant-loop-worked
invariant-loop-worked g l = record {
  seats : l.seats.items ≡ map (λ w. w.seat) l.yielded;
  counts : l.counts.items ≡ map (λ w. w.made) l.yielded;
  none : (k : ℕ) (d : _) → k < length l.yielded → (get_or l.yielded k d).stop ≡ None;
  seats_room : length l.fn.all.items ≤ vec_capacity l.seats;
  counts_room : length l.fn.all.items ≤ vec_capacity l.counts;
  rest : l.fn.all.items ≡ l.yielded ++ l.worked-iterator.rest.items;
}
