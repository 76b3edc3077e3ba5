use Rattle.std.proofs.Common.{[]}
use Rattle.std.specs.Io.KnownBytes.{Consumes}
use Rattle.m161_server.proofs.streams.read_byte.Given as goal

-- no byte was read so far
abbrev pub invariant-loop-call : goal.invariant-loop-call
invariant-loop-call g l = Consumes (g.I.Read.remaining l.fn.input) (g.I.Read.remaining l.input) []
