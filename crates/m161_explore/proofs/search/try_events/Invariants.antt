use Rattle.std.proofs.Common.{◌≡◌, ◌≤◌, length}
use Rattle.m161_explore.specs.Views.{view_at}
use Rattle.m161_explore.specs.helpers.Visit.{IsAt}
use Rattle.m161_explore.proofs.search.try_events.Given as goal

abbrev pub invariant-loop-event : goal.invariant-loop-event
invariant-loop-event g l = record {
  ready : g.S.System.is_ready l.system l.state;
  at : IsAt (g.S.System.rules l.system) (g.S.System.is_valid l.system) l.graph.keys l.graph.nodes.items l.graph.links.items l.from l.event;
  few : length l.graph.keys ≤ l.limit;
  here : l.here ≡ view_at l.graph.keys l.from;
}
