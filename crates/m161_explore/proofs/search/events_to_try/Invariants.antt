use Rattle.m161_explore.specs.helpers.Visit.{AreRefused}
use Rattle.m161_explore.proofs.search.events_to_try.Given as goal

abbrev pub invariant-loop-event : goal.invariant-loop-event
invariant-loop-event g l = AreRefused (g.S.System.rules l.system) (g.S.System.seen l.state) l.event
