use Rattle.std.proofs.Common.{◌≡◌, subst, sym, None, true}
use Rattle.m161_states.specs.System.{next}
use Rattle.m161_states.specs.Verdicts.{stop}
use Rattle.m161_reach.specs.From.{rules_from}
use Rattle.m161_reach.specs.Hand.{InHand}
use Rattle.m161_reach.specs.Reach.{IsMet}
use Rattle.m161_reach.specs.helpers.Onward.{Origin}
use Rattle.m161_reach.proofs.onward.OnwardSystem.refuses.Goals as goal

pub refuses-requires : goal.refuses-requires
refuses-requires g c =
    subst (λ (m : Origin). IsMet m.question c.state.inside.place) (sym c.self.view_is)
    (subst (λ (h : InHand). IsMet c.args.self.now.question h.place) (sym c.state.view_is) c.requires.valid)

pub returns : goal.returns
unfolding rules_from
returns g c =
    let n = c.args.event in
    subst (λ (m : Origin). c.refuses.result ≡ true → (stop m.question c.args.state.now.place n ≡ None) × (next m.question c.args.state.now.place n ≡ None)) c.self.view_is
    (subst (λ (h : InHand). c.refuses.result ≡ true → (stop c.self.inside.machines h.place n ≡ None) × (next c.self.inside.machines h.place n ≡ None)) c.state.view_is c.refuses.ensures)
