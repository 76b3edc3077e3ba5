use Rattle.s161_search.specs.helpers.Inputs.{given_of}
use Rattle.s161_search.proofs.Pointing.{starts_all}
use Rattle.s161_search.proofs.delays.DelayedRunsRuns.start.Goals as goal

pub returns-clause-ok : goal.returns-clause-ok
returns-clause-ok c =
    let self = c.args.self.now in
    let start = c.in_ok-start.ensures in
    starts_all self.basis.now.start.now self.basis.now.task (given_of self.basis.now.inputs.now) self.turns c.none.result c.in_ok-policy.policy c.in_ok-start.field-0
    c.in_ok-policy.ensures.ok start.0 start.1 start.2 start.3 start.4
