use Rattle.std.proofs.Common.{◌≡◌, ap, ℕ}
use Rattle.m161_cpu.specs.declared.uses.Uses.{Uses}
use Rattle.m161_cpu.specs.Uses.{uses_of}
use Rattle.m161_machine.specs.State.{State, step_result}
use Rattle.m161_machine.specs.Uses.{uses_in}

-- The store that `uses_in` says is the Step's.

pub stored_is : (p : ℕ) (s : State) (u : Uses) → u ≡ uses_in p s → u.stored ≡ (step_result p s).stored
unfolding uses_in uses_of step_result
stored_is p s u h = ap (λ (x : Uses). x.stored) h
