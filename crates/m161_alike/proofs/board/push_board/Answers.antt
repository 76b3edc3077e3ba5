use Rattle.m161_alike.proofs.Written.{at_err, begins_more, joined}
use Rattle.m161_alike.proofs.board.push_board.Goals as goal

pub returns-in_err-push_waiting-clause-err : goal.returns-in_err-push_waiting-clause-err
returns-in_err-push_waiting-clause-err g c =
    let parts = c.push_parts.new.out.items in
    at_err c.from_residual-in_err-push_waiting.result
    (begins_more c.args.out.now.items parts c.push_waiting.new.out.items _
    (joined c.args.out.now.items c.push_registers.new.out.items parts _ _ c.in_ok-push_registers.ensures.ok
    (joined c.push_registers.new.out.items c.extend_from_slice.new.self.items parts _ _ c.in_ok-extend_from_slice.ensures.items
    (joined c.extend_from_slice.new.self.items c.extend_from_slice-2.new.self.items parts _ _
    c.in_ok-extend_from_slice-2.ensures.items c.in_ok-push_parts.ensures.ok)))
    c.in_err-push_waiting.ensures.err)
