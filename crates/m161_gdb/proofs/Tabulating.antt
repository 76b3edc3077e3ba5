use Rattle.std.proofs.Common.{◌≡◌, refl, ℕ, ◌+◌, [], ◌∷◌, ◌++◌, add-one}
use Rattle.m161_gdb.specs.Motions.{tabulate}

-- one value more
pub one_more : {X : Type 0} (value : ℕ → X) (n : ℕ) → tabulate value (n + 1) ≡ tabulate value n ++ value n ∷ []
one_more value n = rw add-one refl
