use Rattle.std.proofs.Common.{◌∙◌}
use Rattle.m161_explore.proofs.Visits.{held_key}
use Rattle.m161_explore.proofs.search.expand.Goals as goal

pub restore-requires-clause-view : goal.restore-requires-clause-view
restore-requires-clause-view g c = held_key _ _ _ _ _ _ _ c.deref.result.now c.requires.at (c.deref.ensures.value ∙ c.in_ok-get.ensures)
