use Rattle.std.proofs.Common.{ℕ, Bool, List, true, false, subst}
use Rattle.m161_delays.specs.Search.{Finds}
use Rattle.m161_delays.specs.declared.search.Class.{Class}
use Rattle.s161_search.specs.Delays.{offered_by}
use Rattle.s161_search.specs.Unstored.{ListsUnstored}
use Rattle.s161_search.specs.helpers.Inputs.{given_of}
use Rattle.s161_search.specs.helpers.Storing.{ListStoresFrom}
use Rattle.s161_search.proofs.Storing.{no_list_stores, some_list_stores}
use Rattle.s161_search.proofs.list_stores.lists_unstored.Goals as goal

pub returns-in-Clean-clause-ok : goal.returns-in-Clean-clause-ok
returns-in-Clean-clause-ok g c =
    let given = given_of c.args.runs.now.basis.now.inputs.now in
    let s = c.args.runs.now.basis.now.booted.now in
    let start = c.args.runs.now.basis.now.start.now in
    let class = c.lists_of.result in
    let right : List ℕ → Bool → Type 0 = λ numbers is_cut. ListStoresFrom s start c.args.runs.now.basis.now.task given c.args.runs.now.turns c.args.word numbers false in
    let wrong : List ℕ → Unit {0} → Type 0 = λ numbers found. ListStoresFrom s start c.args.runs.now.basis.now.task given c.args.runs.now.turns c.args.word numbers true in
    subst (λ (lists : Class). ListsUnstored c.args.runs.now.basis.now.task given c.args.runs.now.turns lists c.args.word true) c.lists_of.ensures
    (no_list_stores s start c.args.runs.now.basis.now.task given c.args.runs.now.turns c.args.word class c.in-Clean.runs c.in-Clean.cut c.requires.booted c.requires.started
    (subst (Finds class (offered_by c.args.runs.now.basis.now.task given c.args.runs.now.turns start.core.value.state) right wrong) c.in-Clean.is c.in_ok-search_lists.ensures.ok))

pub returns-in-Wrong-clause-ok : goal.returns-in-Wrong-clause-ok
returns-in-Wrong-clause-ok g c =
    let given = given_of c.args.runs.now.basis.now.inputs.now in
    let s = c.args.runs.now.basis.now.booted.now in
    let start = c.args.runs.now.basis.now.start.now in
    let class = c.lists_of.result in
    let right : List ℕ → Bool → Type 0 = λ numbers is_cut. ListStoresFrom s start c.args.runs.now.basis.now.task given c.args.runs.now.turns c.args.word numbers false in
    let wrong : List ℕ → Unit {0} → Type 0 = λ numbers found. ListStoresFrom s start c.args.runs.now.basis.now.task given c.args.runs.now.turns c.args.word numbers true in
    subst (λ (lists : Class). ListsUnstored c.args.runs.now.basis.now.task given c.args.runs.now.turns lists c.args.word false) c.lists_of.ensures
    (some_list_stores s start c.args.runs.now.basis.now.task given c.args.runs.now.turns c.args.word class c.in-Wrong.delays c.in-Wrong.wrong c.requires.booted c.requires.started
    (subst (Finds class (offered_by c.args.runs.now.basis.now.task given c.args.runs.now.turns start.core.value.state) right wrong) c.in-Wrong.is c.in_ok-search_lists.ensures.ok))
