use Rattle.std.proofs.Common.{◌≡◌, length}
use Rattle.m161_server.specs.Sessions.{has_threads}
use Rattle.m161_server.proofs.choosing.are_threads.Given as goal

abbrev pub invariant-loop-rest : goal.invariant-loop-rest
invariant-loop-rest g l = has_threads (g.T.Run.course l.target).scene l.rest ≡ has_threads (g.T.Run.course l.target).scene l.actions

abbrev pub decreases-loop-rest : goal.decreases-loop-rest
decreases-loop-rest g l = length l.rest
