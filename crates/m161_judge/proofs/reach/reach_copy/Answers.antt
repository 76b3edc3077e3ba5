use Rattle.std.proofs.Common.{◌∙◌, subst, sym}
use Rattle.std.proofs.lemmas.Result.{err_from_is_err_and}
use Rattle.m161_judge.specs.Memory.{IsFirstReach, Reaching}
use Rattle.m161_judge.proofs.Reaching.{first_sought, reaching_none}
use Rattle.m161_judge.proofs.reach.reach_copy.Goals as goal

pub returns-clause-found : goal.returns-clause-found
returns-clause-found g c =
    let s = c.args.core.now.state in
    subst (IsFirstReach c.args.never.now s c.args.events.now) (sym c.first.ensures)
    (first_sought c.args.never.now s c.args.events.now c.in_ok-sought.sought c.reach_from.new.core.state
    (c.in_ok-sought.ensures.found s
    (subst (λ t. Reaching c.args.never.now s c.args.events.now 0 t) (sym c.in_ok-copy.ensures.state) (reaching_none c.args.never.now s c.args.events.now))))

pub returns-in_err-sought-clause-found : goal.returns-in_err-sought-clause-found
returns-in_err-sought-clause-found g c =
    let s = c.args.core.now.state in
    let p = err_from_is_err_and c.from_residual-in_err-sought.result c.from_residual-in_err-sought.ensures.1 in
    rw p.1
    (p.2 ∙ c.in_err-sought.ensures.found s
    (subst (λ t. Reaching c.args.never.now s c.args.events.now 0 t) (sym c.in_ok-copy.ensures.state) (reaching_none c.args.never.now s c.args.events.now)))
