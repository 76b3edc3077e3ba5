use Rattle.std.specs.Prelude.{ℕ, ◌<◌, None}
use Rattle.m161_judge.specs.Verdict.{Criteria}
use Rattle.m161_machine.specs.State.{State}
use Rattle.m161_explore.specs.Unfinished.{IsAtStart}
use Rattle.m161_reach.specs.Exploring.{Exploring, GoesOnExploring, IsExploring}
use Rattle.m161_reach.specs.Reach.{CanBeAsked}
use Rattle.m161_c.specs.Begun.{Begun, IsOf}
use Rattle.m161_c.specs.Explored.{AreAllGood, IsExplored}
use Rattle.m161_c.specs.declared.begun.Slice.{Slice}
use Rattle.m161_c.specs.declared.begun.Slice.TheVariants.{Answered, More}

-- An exploration between its slices.

-- one of a machine at boot was begun, whatever its limit is
pub record IsBegunOf (boot : State) (goal : Criteria) (exploring : Exploring) : Type 0 where
  pub good : AreAllGood boot goal
  pub asked : CanBeAsked boot goal
  pub begun : (limit : ℕ) → 0 < limit → IsExploring boot goal limit exploring
  pub start : IsAtStart exploring.unfinished

-- what a slice comes to
abbrev pub Comes : Begun → ℕ → Slice → Type 0
Comes b number (More c) =
    IsOf b.boot b.limit b.goal c × GoesOnExploring b.boot b.goal b.limit number b.exploring c.exploring None
Comes b number (Answered found events) = IsExplored b.boot b.limit b.goal found events.items
