use Rattle.std.proofs.Common.{◌≡◌, subst, sym, None, true}
use Rattle.m161_states.specs.System.{next}
use Rattle.m161_states.specs.Verdicts.{stop}
use Rattle.m161_reach.specs.Hand.{InHand}
use Rattle.m161_reach.specs.Reach.{IsMet, rules_of}
use Rattle.m161_reach.proofs.system.MachinesSystem.refuses.Goals as goal

pub refuses-requires : goal.refuses-requires
refuses-requires g c = subst (λ (h : InHand). IsMet c.args.self.now h.place) (sym c.state.view_is) c.requires.valid

pub returns : goal.returns
unfolding rules_of
returns g c =
    subst (λ (h : InHand). c.refuses.result ≡ true → (stop c.args.self.now h.place c.args.event ≡ None) × (next c.args.self.now h.place c.args.event ≡ None)) c.state.view_is
    c.refuses.ensures
