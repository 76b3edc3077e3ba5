use Rattle.std.proofs.Common.{◌≡◌, ◌+◌, length}
use Rattle.m161_moves.specs.Threads.{least_from, least_resumed}
use Rattle.m161_moves.proofs.thread.least_resumed.Given as goal

-- those that are left begin behind the ones that were counted
abbrev pub invariant-loop-rest : goal.invariant-loop-rest
invariant-loop-rest l = record {
  least : least_from l.count l.rest ≡ least_resumed l.chosen;
  within : l.count + length l.rest ≡ length l.chosen;
}

abbrev pub decreases-loop-rest : goal.decreases-loop-rest
decreases-loop-rest l = length l.rest
