use Rattle.std.proofs.lemmas.Result.{IfOk-weaker}
use Rattle.m161_c.proofs.Pointing.{starts_all}
use Rattle.m161_c.proofs.lists.ListRunsRuns.start.Goals as goal

pub returns-clause-ok : goal.returns-clause-ok
returns-clause-ok c =
    let self = c.args.self.now in
    IfOk-weaker c.start.result _ _
    (λ point h. starts_all self.task.now self.booted.now self.steps.now self.turns c.none.result c.in_ok-policy.policy point c.in_ok-policy.ensures h.0 h.1 h.2 h.3 h.4)
    c.start.ensures
