use Rattle.std.specs.Prelude.{◌≡◌, ◌⊎◌, ℕ, ◌<◌, List}
use Rattle.m161_audit.specs.declared.watch.Watch.{Watch}
use Rattle.m161_audit.specs.Watch.{AreGood, IsBad}
use Rattle.m161_explore.specs.Answers.{Answers}
use Rattle.m161_judge.specs.Verdict.{Criteria}
use Rattle.m161_machine.specs.State.{State}
use Rattle.m161_reach.specs.declared.whole.Exploration.{Exploration}
use Rattle.m161_reach.specs.Reach.{CanBeAsked, HasEnded, IsLearnt, question_of, rules_of}
use Rattle.m161_c.specs.Explored.{AreAllGood}

-- An exploration before its answer is told.

pub record IsFound (boot : State) (limit : ℕ) (goal : Criteria) (found : Exploration) : Type 0 where
  pub some : 0 < limit
  pub good : AreAllGood boot goal
  pub asked : CanBeAsked boot goal
  pub learnt : IsLearnt (question_of boot goal found.known)
  pub answers : Answers (rules_of (question_of boot goal found.known)) limit found.answer
  pub whole : HasEnded found.answer → ⊥

-- no watch is bad, and what is asked fits its words
abbrev pub IsExplorable : State → Criteria → Type 0
IsExplorable boot goal = AreAllGood boot goal × CanBeAsked boot goal

-- why it isn't known that no watch is bad
abbrev pub IsUnwatched : ℕ → List Watch → ℕ → Type 0
IsUnwatched ram watches answer =
    (answer ≡ 254)
    ⊎ (answer ≡ 22) × ((k : ℕ) × IsBad ram watches k × AreGood ram watches k)

-- why there is neither a machine at boot nor watches
abbrev pub IsUnprepared : ℕ → ℕ → Type 0
IsUnprepared limit answer = (limit ≡ 0) × (answer ≡ 253) ⊎ (0 < limit) × (answer ≡ 254)
