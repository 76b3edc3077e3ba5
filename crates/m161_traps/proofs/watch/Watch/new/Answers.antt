use Rattle.std.proofs.Common.{arith, refl}
use Rattle.m161_traps.proofs.Lasting.{none_at}
use Rattle.m161_traps.proofs.watch.Watch.new.Goals as goal

pub returns : goal.returns
returns c = record {
  last = λ p low. none_at 32 p;
  seen = λ k d within. absurd (let bad : ⊥ = omega (arith, within) in bad);
  quiet = λ quiet p low. refl;
}
