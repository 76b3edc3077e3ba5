use Rattle.std.proofs.Common.{true, false, None, subst, arith}
use Rattle.m161_order.specs.declared.order.Order.{Order}
use Rattle.m161_c.specs.Seeds.{IsRightBy, IsToldRun, seeded}
use Rattle.m161_c.proofs.Seeking.{few_cut, right_more}
use Rattle.m161_c.proofs.seeds.try_seeds.Goals as goal
use Rattle.m161_c.proofs.seeds.try_seeds.Goals.{then-run, else-run}

pub overflow_add-cut : goal.overflow_add-cut
overflow_add-cut c =
    let few = few_cut (λ k is_cut. IsRightBy c.args.task.now (seeded k c.args.order) is_cut) c.loop-right.right c.loop-right.cut c.loop-right.invariant in
    let less = c.loop-right-test.true in
    omega (arith, few, less)

pub loop-right-preserved : goal.loop-right-preserved
loop-right-preserved c =
    let a = c.args.task.now in
    let k = c.loop-right.right in
    let cut = c.loop-right.cut in
    let run = c.in_ok-run.field-0.run in
    let told : IsToldRun a (seeded k c.args.order) run None =
    subst (λ told. IsToldRun a (seeded k c.args.order) run told) c.in_default.is
    (subst (λ (order : Order). IsToldRun a order run c.in_ok-run.field-0.told) c.seeded.ensures c.in_ok-run.ensures) in
    elim c.if-run.branch [
      | then-run w ↦ right_more (λ k is_cut. IsRightBy a (seeded k c.args.order) is_cut) k cut true c.if-run.cut c.loop-right.invariant (run, told, w.if-run.true) w.cut-is
      | else-run w ↦ right_more (λ k is_cut. IsRightBy a (seeded k c.args.order) is_cut) k cut false c.if-run.cut c.loop-right.invariant (run, told, w.if-run.false) w.cut-is
    ]
