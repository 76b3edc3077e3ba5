use Rattle.std.proofs.Common.{subst}
use Rattle.m161_judge.specs.Begun.{IsFirstOf}
use Rattle.m161_judge.specs.Verdict.{Criteria}
use Rattle.s161_search.proofs.start.keep_first.Goals as goal

pub returns-in-Ok : goal.returns-in-Ok
returns-in-Ok c =
    let es = c.args.events.now in
    let t = c.make.new.core.state in (
      t,
      subst (λ (k : Criteria). IsFirstOf k c.args.booted.now es t c.in-Ok.first) c.goal.ensures
          (subst (λ x. IsFirstOf c.goal.result x es t c.in-Ok.first) c.in_ok-core.ensures c.in-Ok.ensures),
    )
