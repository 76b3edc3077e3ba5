use Rattle.std.proofs.Common.{◌∙◌, ap, subst, arith}
use Rattle.m161_drive.specs.Choice.{cursor_at}
use Rattle.m161_c.specs.helpers.Turns.{MakesNext}
use Rattle.m161_c.proofs.Driving.{begins, goes_on, stopped}
use Rattle.m161_c.proofs.driven.drive.Goals as goal

pub loop-made-init : goal.loop-made-init
loop-made-init c =
    begins c.args.policy.now c.args.machine.now c.new-cursor.result (c.new-cursor.ensures ∙ ap (cursor_at c.args.policy.now) c.core.ensures)
    (let last = c.replay.ensures.last in omega (arith, last))

pub loop-made-preserved : goal.loop-made-preserved
loop-made-preserved c =
    let d = c.make_next-stop.new.cursor in
    let j = c.make_next-stop.new.machine in
    goes_on c.args.policy.now c.args.n c.args.machine.now c.loop-made.made c.loop-made.cursor c.loop-made.machine c.loop-made.invariant d j
    (subst (λ stop. MakesNext c.args.policy.now c.loop-made.cursor c.loop-made.machine stop d j) c.in_default.is c.make_next-stop.ensures)

pub returns-in-Some : goal.returns-in-Some
returns-in-Some c =
    let d = c.make_next-stop.new.cursor in
    let j = c.make_next-stop.new.machine in
    stopped c.args.policy.now c.args.n c.args.machine.now c.loop-made.made c.loop-made.cursor c.loop-made.machine c.loop-made.invariant d c.in-Some.stop j
    c.loop-made-test.true (subst (λ stop. MakesNext c.args.policy.now c.loop-made.cursor c.loop-made.machine stop d j) c.in-Some.is c.make_next-stop.ensures)
