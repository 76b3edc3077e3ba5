use Rattle.m161_machine.proofs.Using.{stored_is}
use Rattle.m161_machine.proofs.state.Core.uses.Goals as goal

pub returns-clause-stored : goal.returns-clause-stored
returns-clause-stored g c = stored_is c.args.p c.args.self.now.state c.uses_next.result c.uses_next.ensures
