use Rattle.std.specs.Prelude.{ℕ, Option}
use Rattle.m161_moves.specs.declared.run.StepSeen.{StepSeen}
use Rattle.m161_moves.specs.Scenes.{Scene}

-- A run whose events are fixed.

-- how many events it has, what each of them is, if that is a Step, and what is seen at its places
pub record Course : Type 0 where
  pub end : ℕ
  pub step : ℕ → Option StepSeen
  pub scene : Scene
