use Rattle.std.proofs.Common.{◌≡◌}
use Rattle.m161_server_tests.specs.Toys.{course_of}
use Rattle.m161_moves.specs.Threads.{last_processor}
use Rattle.m161_server_tests.proofs.toy.last_before.Given as goal

abbrev pub invariant-loop-k : goal.invariant-loop-k
invariant-loop-k l = l.last ≡ last_processor (course_of l.events) l.k
