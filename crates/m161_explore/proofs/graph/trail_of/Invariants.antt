use Rattle.std.proofs.Common.{ℕ, ◌<◌, List, ◌++◌, length}
use Rattle.m161_explore.specs.helpers.Trails.{IsTrail}
use Rattle.m161_explore.proofs.graph.trail_of.Given as goal

abbrev pub invariant-loop-here : goal.invariant-loop-here
invariant-loop-here l = record {
  within : l.here < length l.nodes;
  trail : (rest : List ℕ) → IsTrail l.nodes l.here rest → IsTrail l.nodes l.from (l.events.items ++ rest);
}

abbrev pub decreases-loop-here : goal.decreases-loop-here
decreases-loop-here l = l.here
