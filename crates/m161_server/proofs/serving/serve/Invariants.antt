use Rattle.std.proofs.Common.{◌≡◌}
use Rattle.m161_server.specs.helpers.Turns.{Serving}
use Rattle.m161_server.proofs.serving.serve.Given as goal

-- the session so far
abbrev pub invariant-loop-byte : goal.invariant-loop-byte
invariant-loop-byte g l = record {
  same : g.T.Run.course l.target ≡ g.T.Run.course l.fn.target;
  serving : Serving (g.T.Run.course l.fn.target) (g.T.Run.place l.fn.target) (g.I.Read.remaining l.fn.input)
      (g.O.Write.contents l.fn.output) (g.T.Run.place l.target) l.talk (g.I.Read.remaining l.input) (g.O.Write.contents l.output);
}
