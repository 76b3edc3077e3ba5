use Rattle.std.proofs.Common.{take}
use Rattle.m161_threads.specs.helpers.Shares.{Miscounts}
use Rattle.m161_threads.proofs.locked.least_wrong.Given as goal

abbrev pub invariant-loop-i : goal.invariant-loop-i
invariant-loop-i g l = Miscounts l.book.machine.state (take l.i l.seats.items) l.least
