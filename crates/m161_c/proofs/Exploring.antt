use Rattle.std.proofs.Common.{ℕ, ◌<◌, IfErr, Result, Ok, Err, inl, inr}
use Rattle.m161_judge.specs.Verdict.{Criteria}
use Rattle.m161_machine.specs.State.{State}
use Rattle.m161_c.specs.Explored.{IsRefused, IsUnexplored}
use Rattle.m161_c.specs.helpers.Explored.{IsUnwatched}

-- where it isn't known that no watch is bad, nothing is explored
pub unwatched : (boot : State) (goal : Criteria) (answer : ℕ) → IsUnwatched boot.conf.ram goal.watches answer → IsRefused boot goal answer
unwatched boot goal answer (inl h) = inr (inr h)
unwatched boot goal answer (inr h) = inl (h.1, h.0)

-- of some states, what refuses the rest refuses the exploration
pub refused : {A : Type 0} (boot : State) (limit : ℕ) (goal : Criteria) (result : Result A ℕ) → 0 < limit → IfErr result (IsRefused boot goal) →
    IfErr result (IsUnexplored boot limit goal)
refused boot limit goal (Ok told) some h = h
refused boot limit goal (Err answer) some h = inr (some, h)
