use Rattle.std.proofs.Common.{◌∙◌, ◌++◌, arith, rules, ap, length}
use Rattle.s161_debug.proofs.Jumping.{undone_many}
use Rattle.s161_debug.proofs.answer.go_back.Goals as goal

pub put_before-requires-clause-room : goal.put_before-requires-clause-room
put_before-requires-clause-room c =
    let many = undone_many c.args.k c.args.session.now c.jump.new.self _ c.in_ok-undone.undone (search rules) c.in_ok-undone.ensures in
    let room = c.in_ok-room.ensures.room in
    let deref = ap length c.deref.ensures.value in
    omega (arith, many, room, deref)

pub returns-clause-jumped : goal.returns-clause-jumped
returns-clause-jumped c =
    (c.in_ok-undone.undone, c.in_ok-undone.ensures, c.put_before.ensures ∙ ap (λ events. events ++ c.args.left.now) c.deref.ensures.value)
