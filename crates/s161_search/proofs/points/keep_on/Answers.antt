use Rattle.s161_search.proofs.points.keep_on.Goals as goal

pub returns-in-Ok : goal.returns-in-Ok
returns-in-Ok c = rw c.goal.ensures at c.in-Ok.ensures
