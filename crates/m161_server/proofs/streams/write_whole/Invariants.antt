use Rattle.std.proofs.Common.{◌≤◌, length, take}
use Rattle.std.specs.Io.KnownBytes.{Appends}
use Rattle.m161_server.proofs.streams.write_whole.Given as goal

-- so many bytes are written so far
abbrev pub invariant-loop-call : goal.invariant-loop-call
invariant-loop-call g l = Appends (g.O.Write.contents l.fn.output) (g.O.Write.contents l.output) (take l.written l.bytes)
    × (l.written ≤ length l.bytes)
