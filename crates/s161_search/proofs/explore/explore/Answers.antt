use Rattle.std.proofs.Common.{map, string_bytes, subst}
use Rattle.std.specs.Prelude.{IfErr, IfOk}
use Rattle.s161_base.specs.Asked.{AsksFor}
use Rattle.s161_base.specs.Samples.{image_file}
use Rattle.s161_command.specs.declared.task.SearchTask.{SearchTask}
use Rattle.s161_search.specs.Explores.{IsExploredBy, as_search}
use Rattle.s161_search.specs.Given.{search_files}
use Rattle.s161_search.specs.Searches.{IsSearchFault}
use Rattle.s161_search.proofs.explore.explore.Goals as goal

-- the search is that of the task

pub returns-clause-ok : goal.returns-clause-ok
returns-clause-ok g c =
    let files = g.F.FileSource.known c.args.files.now in
    let words = map (λ word. word.now) c.args.never.now in
    let told = string_bytes c.explore_by.new.said in
    subst (λ n. IfOk c.explore_by.result (λ done. IsExploredBy (as_search c.args.task) n words files (image_file files c.args.task.image.now) done.text.items told done.status))
    c.limit_of-limit.ensures.value
    (subst (λ (t : SearchTask). IfOk c.explore_by.result (λ done. IsExploredBy t c.limit_of-limit.result words files (image_file files t.image.now) done.text.items told done.status))
    c.as_search.ensures c.explore_by.ensures.ok)

pub returns-clause-fault : goal.returns-clause-fault
returns-clause-fault g c =
    let files = g.F.FileSource.known c.args.files.now in
    let words = map (λ word. word.now) c.args.never.now in
    subst (λ (t : SearchTask). IfErr c.explore_by.result (IsSearchFault t words files (image_file files t.image.now))) c.as_search.ensures
    c.explore_by.ensures.fault

pub returns-clause-asks : goal.returns-clause-asks
returns-clause-asks g c =
    let asked = g.F.FileSource.asked in
    subst (λ (t : SearchTask). AsksFor (search_files t) c.explore_by.result (asked c.args.files.now) (asked c.explore_by.new.files)) c.as_search.ensures
    c.explore_by.ensures.asks
