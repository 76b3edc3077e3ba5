use Rattle.std.specs.Prelude.{string_bytes}
use Rattle.std.proofs.Common.{map}
use Rattle.std.proofs.lemmas.Result.{err_from_is_err_and}
use Rattle.s161_base.proofs.Asking.{result_asks}
use Rattle.s161_base.specs.Samples.{image_file}
use Rattle.s161_search.specs.Given.{search_files}
use Rattle.s161_search.specs.helpers.Inputs.{given_of}
use Rattle.s161_search.proofs.Asking.{if_never_is_none}
use Rattle.s161_search.proofs.Failing.{failed_so, searched_so}
use Rattle.s161_search.proofs.search.search.Goals as goal

pub returns-in_err-inputs-clause-fault : goal.returns-in_err-inputs-clause-fault
returns-in_err-inputs-clause-fault g c =
    let made = err_from_is_err_and c.from_residual.result c.from_residual.ensures.1 in
    rw (made.1, made.2) (c.in_err-inputs.ensures.fault (map (λ word. word.now) c.args.never.now))

pub returns-clause-ok : goal.returns-clause-ok
returns-clause-ok g c =
    let files = g.F.FileSource.known c.args.files.now in
    searched_so c.args.task (map (λ word. word.now) c.args.never.now) files (image_file files c.args.task.image.now) (given_of c.in_ok-inputs.inputs)
    (string_bytes c.search_in.new.said) c.search_in.result c.in_ok-inputs.ensures.ok c.search_in.ensures.ok

pub returns-clause-fault : goal.returns-clause-fault
returns-clause-fault g c =
    let files = g.F.FileSource.known c.args.files.now in
    failed_so c.args.task (map (λ word. word.now) c.args.never.now) files (image_file files c.args.task.image.now) (given_of c.in_ok-inputs.inputs)
    c.search_in.result c.in_ok-inputs.ensures.ok c.search_in.ensures.fault

-- all files were asked for, and other faults are none of a file
pub returns-clause-asks : goal.returns-clause-asks
returns-clause-asks g c =
    let asked = g.F.FileSource.asked in
    result_asks (search_files c.args.task) (asked c.args.files.now) (asked c.read_inputs.new.files) c.search_in.result c.in_ok-inputs.ensures.asks
    (if_never_is_none c.args.task (map (λ word. word.now) c.args.never.now) (given_of c.in_ok-inputs.inputs) c.search_in.result c.search_in.ensures.fault)
