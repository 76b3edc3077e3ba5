use Rattle.std.proofs.Common.{refl}
use Rattle.m161_machine.proofs.Restoring.{none_waits}
use Rattle.m161_machine.proofs.state.restore.type_bytes.Goals as goal

pub loop-place-init : goal.loop-place-init
loop-place-init g c = (none_waits c.args.board.now.state c.requires.none, refl, refl)
