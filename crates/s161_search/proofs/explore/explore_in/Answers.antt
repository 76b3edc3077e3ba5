use Rattle.std.proofs.Common.{map, string_bytes}
use Rattle.s161_search.specs.helpers.Inputs.{given_of}
use Rattle.s161_search.proofs.Exploring.{explored_for}
use Rattle.s161_search.proofs.Failing.{failed_for}
use Rattle.s161_search.proofs.explore.explore_in.Goals as goal

pub returns-clause-ok : goal.returns-clause-ok
returns-clause-ok c =
    explored_for c.args.search c.args.limit (map (λ word. word.now) c.args.never.now) (given_of c.args.inputs) c.in_ok-inputs.inputs (string_bytes c.explore_from.new.said) c.explore_from.result
    c.in_ok-inputs.ensures.ok c.explore_from.ensures.ok

pub returns-clause-fault : goal.returns-clause-fault
returns-clause-fault c =
    failed_for c.args.search (map (λ word. word.now) c.args.never.now) (given_of c.args.inputs) c.in_ok-inputs.inputs c.explore_from.result
    c.in_ok-inputs.ensures.ok c.explore_from.ensures.fault
