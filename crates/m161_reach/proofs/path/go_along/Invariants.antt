use Rattle.m161_states.specs.System.{Explored}
use Rattle.m161_reach.specs.Reach.{IsMet}
use Rattle.m161_reach.specs.helpers.Path.{IsPath}
use Rattle.m161_reach.proofs.path.go_along.Given as goal

abbrev pub invariant-loop : goal.invariant-loop
invariant-loop g l = record {
  met : IsMet l.machines l.place;
  path : (x : Explored) → IsPath l.machines x l.initial.place l.initial.marks.items → IsPath l.machines x l.place l.marks.items;
}
