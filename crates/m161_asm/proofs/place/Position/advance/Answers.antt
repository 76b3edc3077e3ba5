use Rattle.m161_asm.proofs.Positions.{moved}
use Rattle.m161_asm.proofs.place.Position.advance.Goals as goal

pub returns-in_ok-move_to-in-Some : goal.returns-in_ok-move_to-in-Some
returns-in_ok-move_to-in-Some c =
    rw c.in-Some.is
    (moved c.args.self.now c.grow.new.self c.move_to.new.self c.in-Some.start c.args.size
    c.grow.ensures c.in_ok-move_to-in-Some.ensures)
