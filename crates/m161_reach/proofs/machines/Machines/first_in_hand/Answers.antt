use Rattle.std.proofs.Common.{ap, sym, subst, arith, ℕ, List, [], length}
use Rattle.m161_states.specs.Question.{booted}
use Rattle.m161_states.specs.System.{Explored}
use Rattle.m161_alike.specs.Addresses.{Cover}
use Rattle.m161_alike.proofs.Covering.{cover_none}
use Rattle.m161_reach.proofs.Handled.{first_met}
use Rattle.m161_reach.specs.Reach.{IsMet}
use Rattle.m161_reach.proofs.machines.Machines.first_in_hand.Goals as goal

pub returns-clause-ready : goal.returns-clause-ready
returns-clause-ready g c =
    let q = c.args.self.now in
    let is = c.in_ok-first.ensures in
    record {
      met = subst (IsMet q) (sym is) (first_met q);
      words = λ some. absurd (let size = ap length c.new.ensures.items in let bad : ⊥ = omega (arith, size, some) in bad);
      changed = subst (λ (l : List ℕ). Cover (booted q).bytes c.in_ok-first.field-0.state.memory l) (sym c.new-2.ensures.items)
          (subst (λ (x : Explored). Cover (booted q).bytes x.state.memory []) (sym is) (cover_none (booted q).bytes));
    }
