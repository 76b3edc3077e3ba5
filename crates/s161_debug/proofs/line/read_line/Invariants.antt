use Rattle.s161_debug.proofs.Reading.{ReadSome}
use Rattle.s161_debug.proofs.line.read_line.Given as goal

-- so many bytes were read so far, and none ends a line
abbrev pub invariant-loop-many : goal.invariant-loop-many
invariant-loop-many g l = ReadSome (g.I.Read.remaining l.fn.input) (g.I.Read.remaining l.input) l.bytes.items l.apart l.many
