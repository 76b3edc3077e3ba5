use Rattle.std.proofs.Common.{subst}
use Rattle.std.specs.Prelude.{IfOk}
use Rattle.m161_delays.specs.declared.search.Class.{Class}
use Rattle.s161_search.specs.helpers.Inputs.{given_of}
use Rattle.s161_search.specs.helpers.Tried.{IsSearchedBy}
use Rattle.s161_search.proofs.Delaying.{searched_by}
use Rattle.s161_search.proofs.delays.try_lists.Goals as goal

pub returns-clause-ok : goal.returns-clause-ok
returns-clause-ok g c =
    let runs = c.args.runs.now in
    let task = runs.basis.now.task in
    let given = given_of runs.basis.now.inputs.now in
    subst (λ (lists : Class). IfOk c.search_lists.result (IsSearchedBy task given runs.turns lists)) c.lists_of.ensures
    (searched_by task given runs.turns runs.basis.now.start.now runs.basis.now.ends.now c.lists_of.result c.search_lists.result c.requires.begins c.search_lists.ensures.ok)
