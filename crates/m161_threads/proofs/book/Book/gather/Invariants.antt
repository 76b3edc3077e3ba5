use Rattle.std.proofs.Common.{◌≡◌, length}
use Rattle.std.specs.Prelude.{sum_by}
use Rattle.m161_threads.specs.Shares.{IsKept, NotedOnlyOff, SeatState}
use Rattle.m161_threads.proofs.book.Book.gather.Given as goal

abbrev pub invariant-loop-seat : goal.invariant-loop-seat
invariant-loop-seat g l = record {
  parts : l.all.parts ≡ length l.yielded;
  amount : l.all.amount ≡ sum_by (λ (seat : SeatState). seat.count) l.yielded;
  noted : NotedOnlyOff l.self-inside.machine.state l.yielded;
  machine : l.self-inside.machine ≡ l.initial.self-inside.machine;
  kept : IsKept l.self-inside.machine l.self-inside.steps.total l.self-inside.offs.total;
}
