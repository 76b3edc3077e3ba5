use Rattle.std.proofs.Common.{◌≤◌, length}
use Rattle.std.specs.Io.KnownBytes.{Consumes}
use Rattle.s161_base.proofs.input.read_whole.Given as goal

-- the bytes so far are those that the reader no longer has
abbrev pub invariant-loop-call : goal.invariant-loop-call
invariant-loop-call g l = Consumes (g.R.Read.remaining l.fn.reader) (g.R.Read.remaining l.reader) l.bytes.items
    × (length l.bytes.items ≤ 402_653_184)
