use Rattle.s161_search.specs.helpers.Inputs.{given_of}
use Rattle.s161_search.proofs.Judging.{list_judged}
use Rattle.s161_search.proofs.delays.DelayedRunsRuns.judge_from.Goals as goal

pub returns-clause-ok : goal.returns-clause-ok
returns-clause-ok c =
    let self = c.args.self.now in
    list_judged self.basis.now.start.now self.basis.now.ends.now self.basis.now.task (given_of self.basis.now.inputs.now) self.turns c.args.delays.now c.in_ok-run.run' c.in_ok-tested.tested
    (c.in_ok-run.ensures.ok c.requires) c.in_ok-tested.ensures
