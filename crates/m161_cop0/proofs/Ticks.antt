use Rattle.std.proofs.Common.{◌≡◌, ℕ, ◌-◌, ◌%◌, zero, suc, refl, arith}
use Rattle.std.proofs.lemmas.Bool.Decides.{nat_tests}
use Rattle.m161_cop0.specs.Control.{control_at_start}
use Rattle.m161_cop0.specs.Clock.{after_tick, after_ticks}

-- Random by the number of ticks.

pub random_falls : (n : ℕ) → (after_ticks n control_at_start).random ≡ 63 - n % 56
unfolding after_tick
random_falls zero = refl
random_falls (suc n) =
    let e = random_falls n in
    grind (arith, nat_tests)
