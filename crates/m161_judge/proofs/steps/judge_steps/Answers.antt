use Rattle.std.proofs.Common.{ap}
use Rattle.std.proofs.lemmas.Result.{err_from_is_err_and}
use Rattle.m161_judge.specs.Verdict.{Criteria}
use Rattle.m161_judge.proofs.Finding.{of_both, of_watches}
use Rattle.m161_judge.proofs.steps.judge_steps.Goals as goal

pub returns-in_err-finding : goal.returns-in_err-finding
returns-in_err-finding g c =
    let made = err_from_is_err_and c.from_residual.result c.from_residual.ensures.1 in
    rw (made.1, made.2)
    (of_watches c.args.goal.now c.args.core.now.state c.args.events.now c.goal.inside.watches.now c.in_err-finding.field-0.0
    (ap (λ (x : Criteria). x.watches) c.goal.view_is) c.in_err-finding.ensures.found)

pub returns : goal.returns
returns g c =
    of_both c.args.goal.now c.args.core.now.state c.args.events.now c.goal.inside.watches.now c.goal.inside.never.now
    c.in_ok-finding.finding c.in_ok-reach.reach c.first_of_steps.result
    (ap (λ (x : Criteria). x.watches) c.goal.view_is) (ap (λ (x : Criteria). x.never) c.goal.view_is)
    c.in_ok-finding.ensures.found c.in_ok-reach.ensures.found
    (c.first_of_steps.ensures c.args.goal.now c.args.core.now.state c.args.events.now)
