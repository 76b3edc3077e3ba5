use Rattle.std.proofs.Common.{◌≡◌, ℕ, false, length}
use Rattle.m161_moves.specs.Stopping.{is_stepping}
use Rattle.m161_moves.proofs.looking.some_makes_step.Given as goal

-- if none of the rest does, none does
abbrev pub invariant-loop-rest : goal.invariant-loop-rest
invariant-loop-rest l = ((p : ℕ) → is_stepping l.rest p ≡ false) → (p : ℕ) → is_stepping l.chosen p ≡ false

abbrev pub decreases-loop-rest : goal.decreases-loop-rest
decreases-loop-rest l = length l.rest
