use Rattle.std.proofs.Common.{◌<◌, ◌+◌, subst, sym}
use Rattle.std.specs.Prelude.{IfOk, OnOk}
use Rattle.m161_reach.specs.Hand.{IsReady}
use Rattle.m161_explore.specs.Rules.{Advances}
use Rattle.m161_states.specs.Question.{processors_of}
use Rattle.m161_reach.specs.From.{rules_from}
use Rattle.m161_reach.specs.Reach.{IsMet}
use Rattle.m161_reach.specs.helpers.Onward.{Origin, origin_of}
use Rattle.m161_reach.proofs.onward.OnwardSystem.advance.Goals as goal

pub advance-requires-clause-event : goal.advance-requires-clause-event
unfolding rules_from
advance-requires-clause-event g c = subst (λ (m : Origin). c.args.event < processors_of m.question + 2) (sym c.self.view_is) c.requires.event

pub returns-clause-advances : goal.returns-clause-advances
returns-clause-advances g c =
    subst (λ (m : Origin). IfOk c.advance.result
    (Advances (rules_from m.question (origin_of m.question m.events)) (IsMet m.question) c.args.state.now.place c.args.event c.advance.new.hand.place)) c.self.view_is
    (c.advance.ensures.advances (origin_of c.self.inside.machines c.self.inside.events.now))

pub advance-requires-clause-ready : goal.advance-requires-clause-ready
advance-requires-clause-ready g c = subst (λ (m : Origin). IsReady m.question c.args.state.now) (sym c.self.view_is) c.requires.ready

pub returns-clause-ready : goal.returns-clause-ready
returns-clause-ready g c =
    subst (λ (m : Origin). OnOk c.advance.result (IsReady m.question c.advance.new.hand)) c.self.view_is c.advance.ensures.ready
