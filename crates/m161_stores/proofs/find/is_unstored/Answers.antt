use Rattle.std.proofs.Common.{◌∙◌, subst, sym}
use Rattle.m161_reach.specs.Reach.{question_of}
use Rattle.m161_stores.specs.Stores.{TellsStores}
use Rattle.m161_stores.proofs.Telling.{some_states, tells}
use Rattle.m161_stores.proofs.find.is_unstored.Goals as goal

pub find_store-requires-clause-some : goal.find_store-requires-clause-some
find_store-requires-clause-some g c =
    let q = question_of c.args.boot.now.state c.args.goal.now c.args.found.now.known in
    some_states q c.args.limit c.in-Some.states c.args.found.now.answer c.requires.some c.requires.answers (sym c.states_again.ensures ∙ c.in-Some.is)

pub returns-in_ok-again-in-Some : goal.returns-in_ok-again-in-Some
returns-in_ok-again-in-Some g c =
    let q = question_of c.args.boot.now.state c.args.goal.now c.args.found.now.known in
    subst (TellsStores q c.args.found.now.answer c.args.word) (sym c.says_unstored.ensures)
    (tells q c.args.word c.args.limit c.in-Some.states c.args.found.now.answer c.in_ok-again-in-Some.again c.requires.answers
    (sym c.states_again.ensures ∙ c.in-Some.is) c.in_ok-again-in-Some.ensures)
