use Rattle.std.proofs.Common.{◌≤◌, length}
use Rattle.m161_explore.specs.Search.{IsBefore}
use Rattle.m161_explore.proofs.search.search.Given as goal

abbrev pub invariant-loop-from : goal.invariant-loop-from
invariant-loop-from g l = record {
  ready : g.S.System.is_ready l.system l.state;
  before : IsBefore (g.S.System.rules l.system) (g.S.System.is_valid l.system) l.graph.keys l.graph.nodes.items l.graph.links.items l.from;
  few : length l.graph.keys ≤ l.limit;
}
