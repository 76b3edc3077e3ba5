use Rattle.std.proofs.Common.{◌∙◌}
use Rattle.m161_alike.proofs.RestoringBoard.{board_is}
use Rattle.m161_alike.proofs.restored_board.read_board.Goals as goal

pub returns-clause-view : goal.returns-clause-view
returns-clause-view g c = λ s h.
    c.put_board.ensures.state ∙ board_is c.args.words.now s c.args.core.now.state c.law.ensures.few h
