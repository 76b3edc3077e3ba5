use Rattle.std.proofs.Common.{◌≡◌, length}
use Rattle.m161_server.specs.Words.{hex_from}
use Rattle.m161_server.proofs.words.hex_from.Given as goal

abbrev pub invariant-loop-rest : goal.invariant-loop-rest
invariant-loop-rest l = hex_from l.number l.rest ≡ hex_from 0 l.text

abbrev pub decreases-loop-rest : goal.decreases-loop-rest
decreases-loop-rest l = length l.rest
