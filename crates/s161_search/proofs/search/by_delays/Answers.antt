use Rattle.std.proofs.Common.{inr, subst, sym}
use Rattle.m161_order.specs.Delays.{delays_of}
use Rattle.s161_search.specs.Delays.{IsFirstBy, class_of}
use Rattle.s161_search.specs.helpers.Inputs.{given_of}
use Rattle.s161_search.specs.helpers.Tried.{IsSearchedBy}
use Rattle.s161_search.specs.Searches.{IsFoundBy}
use Rattle.s161_search.proofs.Delaying.{found_listed, turns_are}
use Rattle.s161_search.proofs.search.by_delays.Goals as goal

pub returns-in_ok-text-in-Wrong-clause-ok : goal.returns-in_ok-text-in-Wrong-clause-ok
returns-in_ok-text-in-Wrong-clause-ok g c =
    let task = c.args.basis.now.task in
    let given = given_of c.args.basis.now.inputs.now in
    let class = class_of c.args.class in
    let turns = turns_are task.drive.order c.args.class c.requires.class in
    let steps = c.turns_of-turns.ensures turns.0 turns.1 in
    let first : IsFirstBy task given c.turns_of-turns.result class (delays_of c.in-Wrong.delays) c.in-Wrong.wrong.run c.in-Wrong.wrong.told =
    subst (IsSearchedBy task given c.turns_of-turns.result class) c.in-Wrong.is c.in_ok-count.ensures.ok in (
      turns.0,
      turns.1,
      inr (
        c.wrong_run.ensures.status,
        subst (IsFoundBy task given turns.0 class) (sym c.wrong_run.ensures.text) (found_listed task given turns.0 class (delays_of c.in-Wrong.delays) c.in-Wrong.wrong c.in_ok-text-in-Wrong.text.items
            (subst (λ k. IsFirstBy task given k class (delays_of c.in-Wrong.delays) c.in-Wrong.wrong.run c.in-Wrong.wrong.told) steps first)
            c.in_ok-text-in-Wrong.ensures),
        c.wrong_run.ensures.said,
      ),
    )
