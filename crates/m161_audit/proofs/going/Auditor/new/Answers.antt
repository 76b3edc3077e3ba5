use Rattle.std.proofs.Common.{ℕ, refl, subst}
use Rattle.m161_machine.specs.declared.conf.Conf.{Conf}
use Rattle.m161_audit.specs.Watch.{AreGood, IsBad}
use Rattle.m161_audit.proofs.Parts.{first_memory}
use Rattle.m161_audit.proofs.going.Auditor.new.Goals as goal

pub returns-in-Some : goal.returns-in-Some
returns-in-Some g c =
    subst (λ (x : Conf). IsBad x.ram c.args.watches.now c.in-Some.k × AreGood x.ram c.args.watches.now c.in-Some.k)
    c.conf.ensures c.in-Some.ensures

pub returns : goal.returns
returns g c = (
  subst (λ (x : Conf). (k : ℕ) → AreGood x.ram c.args.watches.now k) c.conf.ensures c.in_default.ensures,
  first_memory c.args.watches.now c.args.core.state c.args.core.state c.in_ok-shootdowns.shootdowns 0 refl c.in_ok-shootdowns.ensures refl,
)
