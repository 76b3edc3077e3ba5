use Rattle.m161_bus.specs.Board.{interrupt_lines}
use Rattle.m161_machine.specs.State.{processor_at}
use Rattle.m161_replay.proofs.Seeing.{user_is}
use Rattle.m161_replay.proofs.views.is_user.Goals as goal

pub returns : goal.returns
returns g c =
    let s = c.args.core.now.state in
    user_is (interrupt_lines c.args.p s.board) c.cop-status.result (processor_at c.args.p s.processors).control c.cop-status.ensures
