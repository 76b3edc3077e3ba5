use Rattle.m161_machine.proofs.Restoring.{typed_byte}
use Rattle.m161_machine.proofs.state.restore.type_byte.Goals as goal

pub returns-clause-state : goal.returns-clause-state
returns-clause-state g c =
    typed_byte c.args.board.now.state c.key-typed.new.self.state c.args.byte c.key-typed.result c.requires c.key-typed.ensures.key
