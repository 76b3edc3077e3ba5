use Rattle.s161_run.specs.helpers.Consoles.{place}
use Rattle.s161_run.proofs.Running.{Serving}
use Rattle.s161_run.proofs.serving.serve.Given as goal

-- the run so far
abbrev pub invariant-loop-made : goal.invariant-loop-made
invariant-loop-made g l =
    Serving l.fn.options l.fn.core.state (g.I.Read.remaining l.fn.input) (g.O.Write.contents l.fn.output) l.made
    (place l.cursor l.core.state l.ended (g.I.Read.remaining l.input) (g.O.Write.contents l.output))
