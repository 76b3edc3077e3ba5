use Rattle.std.proofs.Common.{◌≡◌, ◌+◌, ◌≤◌, length, take}
use Rattle.std.specs.Prelude.{sum, vec_capacity, vec_len}
use Rattle.m161_machine.specs.State.{counts}
use Rattle.m161_threads.specs.Shares.{seats_from}
use Rattle.m161_threads.proofs.locked.Locked.new.Given as goal

abbrev pub invariant-loop-processor : goal.invariant-loop-processor
invariant-loop-processor g l = record {
  machine : l.machine ≡ l.initial.machine;
  end : l.processor-end ≡ length l.machine.state.processors;
  steps_left : l.steps.parts + l.processor ≡ length l.machine.state.processors;
  none_counted : l.steps.amount ≡ 0;
  offs_left : l.offs.parts + l.processor ≡ length l.machine.state.processors;
  none_noted : l.offs.amount ≡ 0;
  total : l.step_book.total ≡ sum (take l.processor (counts l.machine.state));
  off_total : l.off_book.total ≡ 0;
  room : length l.machine.state.processors ≤ vec_capacity l.seats;
  len : vec_len l.seats ≡ l.processor;
  seats : l.seats.items ≡ seats_from 0 (take l.processor (counts l.machine.state));
}
