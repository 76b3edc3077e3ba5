use Rattle.std.proofs.Common.{arith}
use Rattle.m161_machine.specs.Events.{unfolded}
use Rattle.m161_machine.proofs.Unfolding.{repeated}
use Rattle.m161_machine.proofs.events.append.Goals as goal

pub loop-done-preserved : goal.loop-done-preserved
loop-done-preserved c =
    let before = c.loop-done.invariant in (
      repeated (unfolded c.args.runs.now.items) c.loop-done.runs.items c.push_reserved.new.self.items c.args.event c.loop-done.done c.min-more.result before.0
          (rw (← c.new.ensures) c.push_reserved.ensures.items),
      omega arith,
      omega (arith, before.1, before.2, c.push_reserved.ensures.len, c.push_reserved.ensures.capacity),
    )
