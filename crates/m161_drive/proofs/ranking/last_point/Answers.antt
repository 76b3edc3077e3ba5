use Rattle.std.proofs.Common.{◌∙◌, ◌+◌, ◌-◌, ◌<◌, ℕ, sym, ap, subst, length, get_or, slice_index}
use Rattle.std.specs.Prelude.{Option, IfSome, ◌==◌, filter}
use Rattle.std.specs.List.{last_or, range_with_len}
use Rattle.m161_drive.proofs.Finding.{eq_false, eq_true, filter_skip, filter_take}
use Rattle.m161_drive.proofs.ranking.last_point.Goals as goal
use Rattle.m161_drive.proofs.ranking.last_point.Goals.{then-point-step, else-point-step}

pub loop-j-preserved : goal.loop-j-preserved
loop-j-preserved c =
    let points = c.args.points.now in
    let n = length points in
    let j = c.loop-j.j in
    let test = λ (k : ℕ). slice_index points k == c.args.step in
    let rest = filter test (range_with_len (j + 1) (n - (j + 1))) in
    let before = c.loop-j.invariant in
    elim c.if-point-step.branch [
      | then-point-step w ↦ (
        ap (λ o. last_or o rest) w.last-is
            ∙ ap (λ xs. last_or c.loop-j.last xs) (sym (filter_take test j n c.loop-j-test.true (eq_true (get_or points j 0) c.args.step w.if-point-step.true)))
            ∙ before.0,
        subst (λ (o : Option ℕ). IfSome o (λ k. k < n)) (sym w.last-is) c.loop-j-test.true,
      )
      | else-point-step w ↦ (
        ap (λ o. last_or o rest) w.last-is
            ∙ ap (λ xs. last_or c.loop-j.last xs) (sym (filter_skip test j n c.loop-j-test.true (eq_false (get_or points j 0) c.args.step w.if-point-step.false)))
            ∙ before.0,
        subst (λ (o : Option ℕ). IfSome o (λ k. k < n)) (sym w.last-is) before.1,
      )
    ]
