use Rattle.m161_explore.specs.helpers.Visit.{IsAt}
use Rattle.m161_explore.proofs.search.note_refused.Given as goal

abbrev pub invariant-loop-event : goal.invariant-loop-event
invariant-loop-event g l =
    IsAt (g.S.System.rules l.system) (g.S.System.is_valid l.system) l.keys l.nodes l.links.items l.from l._event
