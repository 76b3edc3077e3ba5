use Rattle.std.proofs.Common.{ℕ, subst}
use Rattle.m161_machine.specs.declared.conf.Conf.{Conf}
use Rattle.m161_audit.specs.Watch.{AreGood, IsBad}
use Rattle.m161_audit.proofs.Begun.{audits_state}
use Rattle.m161_audit.proofs.run.audit_core.Goals as goal

pub returns-in-Some : goal.returns-in-Some
returns-in-Some g c =
    subst (λ (x : Conf). IsBad x.ram c.args.watches.now c.in-Some.k × AreGood x.ram c.args.watches.now c.in-Some.k)
    c.conf.ensures c.in-Some.ensures

pub returns : goal.returns
returns g c =
    audits_state c.args.core.now.state c.args.events.now c.args.watches.now c.in_ok-shootdowns.shootdowns c.find_in.result
    (subst (λ (x : Conf). (k : ℕ) → AreGood x.ram c.args.watches.now k) c.conf.ensures c.in_default.ensures)
    c.in_ok-shootdowns.ensures c.find_in.ensures
