use Rattle.std.proofs.Common.{subst}
use Rattle.s161_search.specs.helpers.Delayed.{IsRunFrom}
use Rattle.s161_search.specs.helpers.Inputs.{given_of}
use Rattle.s161_search.proofs.Judging.{seed_judged}
use Rattle.s161_search.proofs.seeds.BasisTrials.judge.Goals as goal

pub returns-clause-ok : goal.returns-clause-ok
returns-clause-ok c =
    let self = c.args.self.now in
    let given = given_of self.inputs.now in
    seed_judged self.start.now self.ends.now self.task given c.args.place c.in_ok-run.run' c.in_ok-tested.tested
    (subst (λ order. IsRunFrom self.start.now self.task given order c.in_ok-run.run') c.order_at-order.ensures c.in_ok-run.ensures.ok) c.in_ok-tested.ensures
