use Rattle.std.specs.Prelude.{◌≡◌, ℕ, ◌^◌, ◌<◌, length, Option, None, Some}
use Rattle.m161_judge.specs.Verdict.{Criteria}
use Rattle.m161_machine.specs.State.{State}
use Rattle.m161_explore.specs.Unfinished.{IsAtStart}
use Rattle.m161_reach.specs.Exploring.{Exploring, GoesOnExploring, IsExploring}
use Rattle.m161_reach.specs.Reach.{CanBeAsked, IsAtBoot}
use Rattle.m161_c.specs.declared.answer.Exploration.{Exploration}
use Rattle.m161_c.specs.Explored.{AreAllGood}
use Rattle.m161_c.specs.Verdicts.{no_verdict}

-- An exploration in slices.

-- one that was begun: the machine at boot, what is asked of it, how many states there may be, and what was found
pub record Begun : Type 0 where
  pub boot : State
  pub goal : Criteria
  pub limit : ℕ
  pub exploring : Exploring

pub record IsBegun (b : Begun) : Type 0 where
  pub boot : IsAtBoot b.boot
  pub some : 0 < b.limit
  pub fits : b.limit < 2 ^ 32
  pub good : AreAllGood b.boot b.goal
  pub asked : CanBeAsked b.boot b.goal
  pub exploring : IsExploring b.boot b.goal b.limit b.exploring

-- there is one, of this machine and question
pub record IsOf (boot : State) (limit : ℕ) (goal : Criteria) (b : Begun) : Type 0 where
  pub same_boot : b.boot ≡ boot
  pub same_limit : b.limit ≡ limit
  pub same_goal : b.goal ≡ goal
  pub begun : IsBegun b

-- one of this machine and question, of which the first state was found, and no more
abbrev pub IsFresh : State → ℕ → Criteria → Begun → Type 0
IsFresh boot limit goal b = IsOf boot limit goal b × IsAtStart b.exploring.unfinished

abbrev pub HasBegun : State → ℕ → Criteria → Option Begun → Type 0
HasBegun boot limit goal None = ⊥
HasBegun boot limit goal (Some b) = IsFresh boot limit goal b

-- how many states were found, as the numbers of an exploration that has no answer yet
abbrev pub unfinished : Begun → Exploration
unfinished b =
    record { kind = 4; states = length b.exploring.unfinished.graph.keys; events = 0; verdict = no_verdict }

-- the same one goes on: the events of so many states more were tried, or more is known of time
abbrev pub HasMore : Begun → ℕ → Exploration → Option Begun → Type 0
HasMore b number after None = ⊥
HasMore b number after (Some c) =
    IsOf b.boot b.limit b.goal c × GoesOnExploring b.boot b.goal b.limit number b.exploring c.exploring None
    × (after ≡ unfinished c)
