use Rattle.std.proofs.Common.{◌≡◌, ◌++◌, subst, sym}
use Rattle.m161_reach.specs.Hand.{IsReady}
use Rattle.std.specs.Prelude.{OnOk}
use Rattle.m161_states.specs.Views.{view}
use Rattle.m161_reach.specs.From.{rules_from}
use Rattle.m161_reach.specs.helpers.Onward.{Origin}
use Rattle.m161_reach.proofs.onward.OnwardSystem.encode.Goals as goal

pub returns-clause-words : goal.returns-clause-words
unfolding rules_from
returns-clause-words g c =
    subst (λ (m : Origin). OnOk c.write.result (c.write.new.words.items ≡ c.args.words.now.items ++ view m.question c.args.state.now.place)) c.self.view_is c.write.ensures.words

pub write-requires : goal.write-requires
write-requires g c = subst (λ (m : Origin). IsReady m.question c.args.state.now) (sym c.self.view_is) c.requires.ready

pub returns-clause-ready : goal.returns-clause-ready
returns-clause-ready g c =
    subst (λ (m : Origin). OnOk c.write.result (IsReady m.question c.write.new.hand)) c.self.view_is c.write.ensures.ready
