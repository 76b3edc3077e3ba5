use Rattle.std.proofs.Common.{◌∙◌, ap, subst, sym}
use Rattle.std.specs.Prelude.{IfOk}
use Rattle.m161_reach.specs.Hand.{IsReady}
use Rattle.m161_reach.specs.helpers.MetFrom.{origin_met}
use Rattle.m161_reach.specs.Reach.{IsMet}
use Rattle.m161_reach.specs.From.{rules_from}
use Rattle.m161_reach.specs.helpers.Onward.{Origin, origin_of}
use Rattle.m161_reach.proofs.Encoding.{if_ok}
use Rattle.m161_reach.proofs.onward.OnwardSystem.start.Goals as goal

pub returns-clause-start : goal.returns-clause-start
unfolding rules_from
returns-clause-start g c =
    if_ok c.in_hand.result (λ hand h. h ∙ c.in_ok-copy_place.ensures ∙ c.self.invariant ∙ ap (λ (m : Origin). origin_of m.question m.events) c.self.view_is) c.in_hand.ensures.same

pub in_hand-requires : goal.in_hand-requires
in_hand-requires g c =
    subst (IsMet c.self.inside.machines) (sym (c.in_ok-copy_place.ensures ∙ c.self.invariant)) (origin_met c.self.inside.machines c.self.inside.events.now)

pub returns-clause-ready : goal.returns-clause-ready
returns-clause-ready g c =
    subst (λ (m : Origin). IfOk c.in_hand.result (IsReady m.question)) c.self.view_is c.in_hand.ensures.ready
