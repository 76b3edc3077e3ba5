use Rattle.std.proofs.Common.{◌≡◌, ◌<◌, ◌≤◌, ℕ, length, drop, get_or}
use Rattle.std.specs.Prelude.{vec_len, vec_capacity}
use Rattle.m161_threads.specs.Shares.{SeatState}
use Rattle.m161_threads.specs.helpers.Work.{task_of}
use Rattle.m161_threads.proofs.worker.start_all.Given as goal

abbrev pub invariant-loop-i : goal.invariant-loop-i
invariant-loop-i g l = record {
  len : vec_len l.handles ≡ l.i;
  room : length l.quotas ≤ vec_capacity l.handles;
  rest : l.seats.items ≡ drop l.i l.initial.seats.items;
  promised : (k : ℕ) (d : _) (e : SeatState) → k < l.i → (get_or l.handles.items k d).promise ≡ task_of (get_or l.initial.seats.items k e) (get_or l.quotas k 0);
}
