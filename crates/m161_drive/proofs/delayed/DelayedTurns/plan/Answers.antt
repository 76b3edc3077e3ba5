use Rattle.std.proofs.Common.{sym, subst, List, ◌++◌, take, arith}
use Rattle.std.proofs.lemmas.List.{length-append, length-take, take-append-le}
use Rattle.m161_machine.specs.declared.event.Entry.{Entry}
use Rattle.m161_order.specs.Delays.{delays_of}
use Rattle.m161_drive.specs.Delayed.{DelayState}
use Rattle.m161_drive.specs.declared.orders.OrderState.TheVariants.{ByDelays}
use Rattle.m161_drive.specs.helpers.Drive.{Plans, PlansBehind}
use Rattle.m161_drive.proofs.Planned.{delays_planned}
use Rattle.m161_drive.proofs.delayed.DelayedTurns.plan.Goals as goal

pub returns : goal.returns
returns g c =
    let n = c.plan.result in
    let p = c.args.p in
    let s = c.args.core.now.state in
    let first = c.plan.new.places in
    let others = c.split_at_mut-first.result.1.now in
    let plan = c.plan.ensures in
    let within = plan.within in
    let size = plan.size in
    let front = c.split_at_mut-first.ensures.front_len in
    let back = c.split_at_mut-first.ensures.back_len in
    let least = c.min-most.ensures in
    let long = length-take n first in
    let whole = length-append first others in
    let all = take-append-le n first others (omega (arith, within, size)) in
    subst (λ (d : DelayState). PlansBehind (ByDelays d) p s c.args.places.now n (first ++ others)) c.self.view_is record {
      end = plan.end;
      plans =
          subst (λ (es : List Entry). Plans (ByDelays (record { turns = c.self.inside.turns; left = delays_of c.self.inside.left })) p s es plan.end) (sym all)
          (delays_planned c.self.inside.turns (delays_of c.self.inside.left) p s (take n first) plan.end
          (λ k less. c.until_due.ensures.none k (omega (arith, less, long, within, front, least))) plan.plans);
      may_go = plan.may_go;
      within = omega (arith, within, front, least);
      size = omega (arith, whole, size, front, back, least);
    }
