use Rattle.m161_order.specs.Delays.{delays_of}
use Rattle.m161_delays.proofs.Batches.{AreNextBelow}
use Rattle.m161_delays.proofs.last.useful_numbers.Given as goal

-- the numbers so far
abbrev pub invariant-loop-number : goal.invariant-loop-number
invariant-loop-number g l = AreNextBelow l.class (g.T.Runs.offers l.runs) (delays_of l.delays) l.number l.numbers.items
