use Rattle.std.proofs.Common.{subst}
use Rattle.std.proofs.lemmas.Result.{err_from_is_err_and}
use Rattle.m161_reach.specs.Reach.{CanBeAsked}
use Rattle.m161_c.specs.Explored.{AreAllGood, IsRefused}
use Rattle.m161_c.specs.Seeds.{Asked}
use Rattle.m161_c.proofs.listed.seek_from.Goals as goal

pub returns-in_err-core-clause-err : goal.returns-in_err-core-clause-err
returns-in_err-core-clause-err c =
    let p = err_from_is_err_and c.from_residual.result c.from_residual.ensures.1 in
    rw (p.1, p.2) (subst (λ (a : Asked). IsRefused c.args.booted.now a.goal c.in_err-core.field-0.0) c.task.view_is c.in_err-core.ensures.err)

pub returns-in-Ok-clause-ok : goal.returns-in-Ok-clause-ok
returns-in-Ok-clause-ok c =
    let booted = c.args.booted.now in (
      subst (λ (a : Asked). AreAllGood booted a.goal) c.task.view_is c.in_ok-core.ensures.good,
      subst (λ (a : Asked). CanBeAsked booted a.goal) c.task.view_is c.in_ok-core.ensures.asked,
      c.in-Ok.ensures,
    )
