use Rattle.std.proofs.Common.{◌≡◌, ℕ, refl}
use Rattle.m161_machine.specs.State.{State, step_on, step_result}

-- A Step of a state, written out.

pub step_is : (p : ℕ) (s : State) → step_result p s ≡ step_on p s
unfolding step_result
step_is p s = refl
