use Rattle.std.proofs.Common.{◌-◌, arith, inl, inr}
use Rattle.m161_jobs.proofs.Judging.{right_next, wrong_of}
use Rattle.m161_jobs.proofs.Rights.{right_at}
use Rattle.m161_jobs.proofs.parts.try_part.Goals as goal
use Rattle.m161_jobs.proofs.parts.try_part.Goals.{then-is_cut, else-is_cut}

pub returns-in-Wrong-clause-ok : goal.returns-in-Wrong-clause-ok
returns-in-Wrong-clause-ok g c =
    let trials = c.args.trials.now in
    let right = g.T.Trials.right trials in
    let place = c.loop-place.place in
    let least = c.loop-place.auto.place in
    record {
      least = omega (arith, least);
      within = c.loop-place-test.true;
      is_wrong = wrong_of (right place) (g.T.Trials.wrong trials place) c.in_ok-is_cut.field-0 c.in-Wrong.wrong c.in-Wrong.is c.in_ok-is_cut.ensures.ok;
      before = λ n more less.
          right_at right c.args.from (place - c.args.from) c.loop-place.cut n c.loop-place.invariant.right more (omega (arith, more, less));
    }

pub loop-place-preserved : goal.loop-place-preserved
loop-place-preserved g c =
    let trials = c.args.trials.now in
    let right = g.T.Trials.right trials in
    let wrong = g.T.Trials.wrong trials in
    let place = c.loop-place.place in
    let least = c.loop-place.auto.place in
    let few = c.loop-place.invariant.few in
    elim c.if-is_cut.branch [
      | then-is_cut w ↦
          record {
            right = right_next right wrong c.args.from place c.loop-place.cut c.if-is_cut.cut c.in-Right.is_cut c.in_ok-is_cut.field-0 (omega (arith, least))
                c.loop-place.invariant.right c.in-Right.is c.in_ok-is_cut.ensures.ok (inl (w.if-is_cut.true, w.cut-is));
            few = let is = w.cut-is in omega (arith, few, least, is);
          }
      | else-is_cut w ↦
          record {
            right = right_next right wrong c.args.from place c.loop-place.cut c.if-is_cut.cut c.in-Right.is_cut c.in_ok-is_cut.field-0 (omega (arith, least))
                c.loop-place.invariant.right c.in-Right.is c.in_ok-is_cut.ensures.ok (inr (w.if-is_cut.false, w.cut-is));
            few = let is = w.cut-is in omega (arith, few, least, is);
          }
    ]
