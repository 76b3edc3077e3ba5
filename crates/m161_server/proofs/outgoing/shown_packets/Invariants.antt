use Rattle.std.proofs.Common.{◌≡◌, ◌++◌, length}
use Rattle.m161_server.specs.Texts.{shown_packets}
use Rattle.m161_server.proofs.outgoing.shown_packets.Given as goal

abbrev pub invariant-loop-rest : goal.invariant-loop-rest
invariant-loop-rest l = l.out.items ++ shown_packets l.rest ≡ shown_packets l.text

abbrev pub decreases-loop-rest : goal.decreases-loop-rest
decreases-loop-rest l = length l.rest
