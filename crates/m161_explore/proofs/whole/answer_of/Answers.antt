use Rattle.std.proofs.Common.{arith}
use Rattle.m161_explore.proofs.Judging.{found_path, open_path}
use Rattle.m161_explore.proofs.whole.answer_of.Goals as goal

pub returns-in_ok-push-in-WrongFrom : goal.returns-in_ok-push-in-WrongFrom
returns-in_ok-push-in-WrongFrom g c =
    let path = c.in_ok-events-in-WrongFrom.ensures in
    found_path _ _ _ _ _ _ _ _ c.in-WrongFrom.from c.in-WrongFrom.event c.in-WrongFrom.verdict _ _ _ path.0 c.in-WrongFrom.is c.requires.finds c.deref.ensures.value path.1 c.in_ok-push-in-WrongFrom.ensures.items path.2 (omega arith)

pub returns-in_ok-trail_of-in-TooMany : goal.returns-in_ok-trail_of-in-TooMany
returns-in_ok-trail_of-in-TooMany g c =
    open_path _ _ _ _ _ _ _ _ c.in-TooMany.from _ c.in_ok-trail_of-in-TooMany.field-0.items c.in-TooMany.is c.requires.finds c.deref-in-TooMany.ensures.value c.in_ok-trail_of-in-TooMany.ensures (omega arith)
