use Rattle.std.specs.Prelude.{string_bytes}
use Rattle.std.proofs.Common.{map, subst, sym}
use Rattle.s161_search.specs.Given.{AreAllKeys}
use Rattle.s161_search.specs.helpers.Inputs.{given_of}
use Rattle.s161_search.proofs.Failing.{failed_for, printed_for}
use Rattle.s161_search.proofs.search.search_in.Goals as goal

pub returns-clause-ok : goal.returns-clause-ok
returns-clause-ok g c =
    printed_for c.args.task (map (λ word. word.now) c.args.never.now) (given_of c.args.inputs) c.in_ok-inputs.inputs (string_bytes c.make_runs.new.said) c.make_runs.result
    c.in_ok-inputs.ensures.ok c.make_runs.ensures.ok

pub returns-clause-fault : goal.returns-clause-fault
returns-clause-fault g c =
    failed_for c.args.task (map (λ word. word.now) c.args.never.now) (given_of c.args.inputs) c.in_ok-inputs.inputs c.make_runs.result
    c.in_ok-inputs.ensures.ok c.make_runs.ensures.fault

-- all keys are still those
pub make_runs-requires-clause-keys : goal.make_runs-requires-clause-keys
make_runs-requires-clause-keys g c = λ κs outlive. subst AreAllKeys (sym c.in_ok-inputs.ensures.ok.0) c.requires.keys
