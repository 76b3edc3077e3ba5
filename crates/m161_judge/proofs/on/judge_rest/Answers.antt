use Rattle.std.proofs.Common.{◌∙◌, subst}
use Rattle.std.proofs.lemmas.Result.{err_from_is_err_and}
use Rattle.m161_judge.specs.Memory.{IsKeptOf}
use Rattle.m161_judge.proofs.Behind.{rest_error, rest_judged}
use Rattle.m161_judge.proofs.on.judge_rest.Goals as goal

pub returns-in_err-run : goal.returns-in_err-run
returns-in_err-run g c = λ s u fs first keys begun kept.
    let made = err_from_is_err_and c.from_residual.result c.from_residual.ensures.1 in
    rw (made.1, made.2)
    (rest_error c.args.policy.now c.args.n c.args.goal.now s fs u c.args.begun.items c.in_err-run.field-0.0 (c.in_err-run.ensures s u fs first keys begun))

pub returns-in_err-go_on : goal.returns-in_err-go_on
returns-in_err-go_on g c = λ s u fs first keys begun kept.
    let made = err_from_is_err_and c.from_residual-in_err-go_on.result c.from_residual-in_err-go_on.ensures.1 in
    let rest = c.in_ok-run.ensures s u fs first keys begun in
    rw (made.1, made.2) (c.in_err-go_on.ensures s c.args.begun.items rest.1.0 (c.deref.ensures.value ∙ rest.1.1) kept)

pub returns : goal.returns
returns g c = λ s u fs first keys begun kept.
    let goal = c.args.goal.now in
    let run = c.in_ok-run.run' in
    let rest = c.in_ok-run.ensures s u fs first keys begun in
    let more : IsKeptOf goal s run.events.items c.go_on.new.self =
    subst (λ es. IsKeptOf goal s es c.go_on.new.self) c.deref.ensures.value
    (c.in_ok-go_on.ensures s c.args.begun.items rest.1.0 (c.deref.ensures.value ∙ rest.1.1) kept) in
    rest_judged c.args.policy.now c.args.n goal s fs u run c.verdict.result c.first_verdict.result rest.0 (c.verdict.ensures goal s run.events.items more)
    c.first_verdict.ensures
