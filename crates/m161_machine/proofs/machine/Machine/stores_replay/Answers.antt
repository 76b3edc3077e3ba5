use Rattle.m161_machine.proofs.Storing.{stores_agree}
use Rattle.m161_machine.proofs.machine.Machine.stores_replay.Goals as goal

pub returns : goal.returns
returns g c =
    stores_agree c.args.self.now.base c.args.self.now.log c.args.self.now.state c.replay.ensures.replay
