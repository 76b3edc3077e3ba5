use Rattle.std.proofs.Common.{◌∙◌, ap, subst, sym}
use Rattle.m161_explore.specs.Rules.{Advances}
use Rattle.m161_reach.specs.Reach.{IsMet}
use Rattle.m161_stores.specs.Runs.{is_word}
use Rattle.m161_stores.specs.helpers.Storing.{storing_rules}
use Rattle.m161_stores.proofs.Sighting.{advances}
use Rattle.m161_stores.proofs.storing.StoringSystem.advance.Goals as goal

pub advance-requires-clause-event : goal.advance-requires-clause-event
unfolding storing_rules
advance-requires-clause-event g c = c.requires.event

pub returns-clause-advances : goal.returns-clause-advances
returns-clause-advances g c =
    let q = c.args.self.now.machines in
    let word = c.args.self.now.word in
    let x = c.args.state.now.place in
    let t = c.advance.new.hand.place in
    let n = c.args.event in
    let stores = c.is_word.ensures ∙ ap (is_word word) c.stores_to-stored.ensures in
    subst (Advances (storing_rules q word) (IsMet q) x n t) (sym c.sight_of.ensures)
    (advances q word x t n c.is_word.result c.in_ok-came.came stores c.in_ok-came.ensures.advances)
