use Rattle.std.proofs.Common.{◌∙◌, ap, subst}
use Rattle.std.specs.Prelude.{sum}
use Rattle.m161_threads.specs.helpers.Runs.{IsLater}
use Rattle.m161_threads.proofs.Outcomes.{told}
use Rattle.m161_threads.proofs.threaded.checked_report.Goals as goal

pub returns-in-Some-clause-ok : goal.returns-in-Some-clause-ok
returns-in-Some-clause-ok g c =
    let r = c.replay.ensures in
    record {
      told = told r.replay r.boot r.made r.last;
      later = subst (λ n. IsLater c.args.before.now n c.in-Ok.machine)
          (c.if-made-total.true ∙ c.total.ensures ∙ ap sum c.as_slice.ensures.value) c.in-Some.ensures;
      seats_are = c.in-Ok.ensures.ok;
      noted = c.in-Ok.ensures.noted;
      off_is = c.is_off-off.ensures;
    }
