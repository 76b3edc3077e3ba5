use Rattle.std.proofs.Common.{◌≡◌, subst, sym}
use Rattle.std.specs.Prelude.{OnOk}
use Rattle.m161_reach.specs.Hand.{IsReady}
use Rattle.m161_states.specs.System.{Explored}
use Rattle.m161_states.specs.Views.{view}
use Rattle.m161_reach.specs.From.{rules_from}
use Rattle.m161_reach.specs.Reach.{IsMet}
use Rattle.m161_reach.specs.helpers.Onward.{Origin}
use Rattle.m161_reach.proofs.onward.OnwardSystem.restore.Goals as goal

pub restore-requires-clause-view : goal.restore-requires-clause-view
unfolding rules_from
restore-requires-clause-view g c =
    subst (λ (m : Origin). (x : Explored) × IsMet m.question x × (view m.question x ≡ c.args.words.now)) (sym c.self.view_is) c.requires.view

pub returns-clause-view : goal.returns-clause-view
unfolding rules_from
returns-clause-view g c =
    subst (λ (m : Origin). OnOk c.restore.result (IsMet m.question c.restore.new.hand.place × (view m.question c.restore.new.hand.place ≡ c.args.words.now))) c.self.view_is
    c.restore.ensures.view

pub restore-requires-clause-ready : goal.restore-requires-clause-ready
restore-requires-clause-ready g c = subst (λ (m : Origin). IsReady m.question c.args.state.now) (sym c.self.view_is) c.requires.ready

pub returns-clause-ready : goal.returns-clause-ready
returns-clause-ready g c =
    subst (λ (m : Origin). OnOk c.restore.result (IsReady m.question c.restore.new.hand)) c.self.view_is c.restore.ensures.ready
