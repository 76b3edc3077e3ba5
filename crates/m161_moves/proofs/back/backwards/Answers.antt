use Rattle.std.proofs.Common.{◌∙◌, sym}
use Rattle.m161_moves.proofs.Returning.{interrupted}
use Rattle.m161_moves.proofs.back.backwards.Goals as goal

pub returns-then-is_interrupted-clause-ok : goal.returns-then-is_interrupted-clause-ok
returns-then-is_interrupted-clause-ok g c =
    interrupted (g.R.Run.course c.args.run.now) c.args.stops.now c.args.chosen.now (g.R.Run.place c.args.run.now) (sym c.is_interrupted.ensures ∙ c.if-is_interrupted.true)
