use Rattle.s161_debug.specs.helpers.Sessions.{place}
use Rattle.s161_debug.proofs.Passing.{Serving}
use Rattle.s161_debug.proofs.serving.serve.Given as goal

-- the session so far
abbrev pub invariant-loop-line : goal.invariant-loop-line
invariant-loop-line g l =
    Serving l.fn.session l.fn.left (g.I.Read.remaining l.fn.input) (g.O.Write.contents l.fn.output)
    (g.E.Write.contents l.fn.errors) (g.I.Read.remaining l.input)
    (place l.session l.left (g.O.Write.contents l.output) (g.E.Write.contents l.errors))
