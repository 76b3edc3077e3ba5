use Rattle.std.proofs.Common.{◌≡◌, ap}
use Rattle.std.proofs.lemmas.Result.{err_from_is_err_and}
use Rattle.m161_judge.specs.Verdict.{Criteria}
use Rattle.m161_judge.proofs.Keeping.{not_started}
use Rattle.m161_judge.proofs.memory.StepMemory.new.Goals as goal

pub returns-in_err-audit : goal.returns-in_err-audit
returns-in_err-audit g c =
    let p = err_from_is_err_and c.from_residual.result c.from_residual.ensures.1 in
    rw (p.1, p.2)
    (not_started c.args.goal.now c.args.booted.now c.goal.inside.watches.now c.in_err-audit.field-0.0
    (ap (λ (x : Criteria). x.watches) c.goal.view_is) c.in_err-audit.ensures.err)

pub returns : goal.returns
returns g c =
    let watches : c.goal.inside.watches.now ≡ c.args.goal.now.watches = ap (λ (x : Criteria). x.watches) c.goal.view_is in
    let never : c.goal.inside.never.now ≡ c.args.goal.now.never = ap (λ (x : Criteria). x.never) c.goal.view_is in
    record {
      good = rw watches at c.in_ok-audit.ensures.good;
      audit = rw watches at c.in_ok-audit.ensures.ok;
      reach = rw never at c.in_ok-reach.ensures;
    }
