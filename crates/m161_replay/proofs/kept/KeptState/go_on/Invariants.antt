use Rattle.std.proofs.Common.{◌-◌, ◌≤◌, max}
use Rattle.m161_machine.specs.State.{State}
use Rattle.m161_replay.specs.Standing.{IsAt}
use Rattle.m161_replay.proofs.kept.KeptState.go_on.Given as goal

-- it is at a place of each run that it was at one of
abbrev pub invariant-loop-self : goal.invariant-loop-self
invariant-loop-self g l = record {
  at : (start : State) → IsAt start l.list l.initial.self.place l.initial.self.last l.initial.self.core.value.state →
      IsAt start l.list l.self.place l.self.last l.self.core.value.state;
  more : l.initial.self.place ≤ l.self.place;
  within : l.self.place ≤ max l.initial.self.place l.to;
}

abbrev pub decreases-loop-self : goal.decreases-loop-self
decreases-loop-self g l = l.to - l.self.place
