use Rattle.std.proofs.Common.{◌≡◌, ℕ, ◌<◌, length}
use Rattle.m161_explore.specs.Views.{view_at}
use Rattle.m161_explore.specs.helpers.Ends.{flag_at}
use Rattle.m161_explore.proofs.whole.ends_of.Given as goal

abbrev pub invariant-loop-at : goal.invariant-loop-at
invariant-loop-at g l = record {
  ready : g.S.System.is_ready l.system l.state;
  size : length l.ends.items ≡ l.at;
  each : (j : ℕ) (s : g.S.System.Seen) → j < l.at → g.S.System.is_valid l.system s → (g.S.System.rules l.system).view s ≡ view_at l.graph.keys j →
      (g.S.System.rules l.system).is_end s ≡ flag_at l.ends.items j;
}
