use Rattle.m161_machine.proofs.Idle.{idle_is_rest}
use Rattle.m161_machine.proofs.state.Core.rests.Goals as goal

pub returns-clause-idle : goal.returns-clause-idle
returns-clause-idle g c = idle_is_rest c.args.p c.args.self.now.state
