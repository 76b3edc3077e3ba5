use Rattle.m161_machine.proofs.Resuming.{determined}
use Rattle.m161_machine.proofs.machine.Machine.is_determined_by_log.Goals as goal

pub returns : goal.returns
returns g c =
    determined c.args.self.now c.args.other.now c.replay.ensures.replay c.replay-2.ensures.replay
    c.requires.start c.requires.base c.requires.log
