use Rattle.m161_explore.specs.helpers.Ends.{Spreads, unset}
use Rattle.m161_explore.proofs.ends.spread_all.Given as goal

abbrev pub invariant-loop : goal.invariant-loop
invariant-loop l = Spreads l.width l.links l.initial.flags l.flags

abbrev pub decreases-loop : goal.decreases-loop
decreases-loop l = unset l.flags
