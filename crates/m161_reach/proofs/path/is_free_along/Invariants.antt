use Rattle.std.proofs.Common.{◌≡◌, ◌+◌, ◌-◌, ◌≤◌, length}
use Rattle.m161_reach.specs.Reach.{IsMet}
use Rattle.m161_reach.specs.helpers.Path.{IsPath}
use Rattle.m161_reach.proofs.path.is_free_along.Given as goal

abbrev pub invariant-loop-before : goal.invariant-loop-before
invariant-loop-before g l = record {
  met : IsMet l.machines l.place;
  path : IsPath l.machines l.initial.place l.place l.marks.items;
  most : l.most ≡ l.limit;
  before : l.before ≡ length l.marks.items;
  number : 256 ≤ l.number;
}

abbrev pub decreases-loop-before : goal.decreases-loop-before
decreases-loop-before g l = l.most + 1 - l.before
